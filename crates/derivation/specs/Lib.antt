pub mod Errors
pub mod Judged
pub mod Answers
pub mod Laws
