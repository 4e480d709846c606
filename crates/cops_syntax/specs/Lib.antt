pub mod View
pub mod Flat
pub mod States
pub mod Reader
pub mod Answers
