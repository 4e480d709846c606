pub mod Answers
pub mod Values
pub mod Lists
pub mod Trails
