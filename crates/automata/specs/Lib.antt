pub mod Runs
pub mod Closed
pub mod Evidence
pub mod Growth
pub mod Laws
