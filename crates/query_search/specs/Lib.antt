pub mod Answers
pub mod Choices
