pub mod Ready
pub mod Judging
pub mod Running
pub mod Stands
pub mod RunTallies
