pub mod Judge
pub mod Parts
pub mod Tried
pub mod Large
pub mod Renumbered
pub mod Clashes
