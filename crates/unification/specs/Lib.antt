pub mod Answers
pub mod Solving
