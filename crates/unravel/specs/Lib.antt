pub mod Answers
pub mod Listed
pub mod SideView
pub mod RuleAnswers
