pub mod Answers
pub mod Growth
pub mod RefutingView
