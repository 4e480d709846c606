pub mod Tried
pub mod Prefixes
