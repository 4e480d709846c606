pub mod Values
pub mod Bound
pub mod Structure
pub mod OneJudgement
pub mod Decided
pub mod Total
