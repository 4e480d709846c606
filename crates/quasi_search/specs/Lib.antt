pub mod Joins
pub mod Listed
pub mod MeasureTrials
pub mod Reducts
