pub mod Sides
pub mod Parts
pub mod Runs
pub mod Laws
