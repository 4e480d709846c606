pub mod Answers
pub mod Columns
pub mod JudgeView
pub mod Needed
pub mod Prefix
pub mod Walks
