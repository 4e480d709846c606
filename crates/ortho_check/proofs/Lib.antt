pub mod Sound
pub mod Judging
pub mod Runs
