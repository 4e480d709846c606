pub mod Entries
pub mod FewUnits
pub mod GrownOnce
pub mod Growths
pub mod Ortho
pub mod Peak
pub mod PeakOnce
pub mod OrthoThenPeak
