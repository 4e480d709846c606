pub mod Ending
pub mod Index
pub mod Listings
pub mod Pairs
pub mod Shared
pub mod Steps
pub mod TwoLists
