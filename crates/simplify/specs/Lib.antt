pub mod Rules
pub mod Numbering
pub mod Inlining
pub mod Changes
pub mod Answers
