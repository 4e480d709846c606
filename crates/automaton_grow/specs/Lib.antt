pub mod Growing
pub mod Placing
pub mod Limits
pub mod Rounds
pub mod Answers
