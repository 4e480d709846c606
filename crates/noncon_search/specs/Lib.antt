pub mod Laying
pub mod Ends
pub mod Answers
pub mod Refuted
pub mod Trying
pub mod Entries
