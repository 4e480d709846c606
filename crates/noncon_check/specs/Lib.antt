pub mod Walks
pub mod Judges
pub mod Ends
