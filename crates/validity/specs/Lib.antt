pub mod KindView
pub mod Answers
