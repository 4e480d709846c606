pub mod Parts
pub mod Falling
pub mod Entries
