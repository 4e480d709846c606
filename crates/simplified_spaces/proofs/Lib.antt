pub mod Tries
pub mod Standard
pub mod Walks
