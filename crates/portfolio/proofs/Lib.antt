pub mod Ending
pub mod WithSteps
pub mod Proving
pub mod StepOrigins
