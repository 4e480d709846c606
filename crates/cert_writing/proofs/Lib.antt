pub mod Writing
pub mod WritingSteps
pub mod SharedTexts
pub mod Prelude
