pub mod Spelt
pub mod Prelude
