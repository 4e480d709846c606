pub mod FewWords
pub mod Numbers
pub mod LongTexts
pub mod Verdicts
pub mod Faults
