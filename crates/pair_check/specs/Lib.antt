pub mod Judges
pub mod WhichView
pub mod Walk
pub mod Runs
pub mod Underway
pub mod Steps
pub mod RunView
