pub mod Unique
pub mod Instances
pub mod Steps
pub mod Reducts
pub mod Rigid
pub mod Total
