pub mod Listing
pub mod Ending
