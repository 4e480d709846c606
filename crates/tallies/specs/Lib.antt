pub mod Tally
pub mod Runs
pub mod Codes
pub mod Laws
