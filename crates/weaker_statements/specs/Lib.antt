pub mod Peaks
pub mod Measures
