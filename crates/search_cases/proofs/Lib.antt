pub mod Heads
pub mod Each
pub mod Conditions
