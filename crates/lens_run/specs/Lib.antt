pub mod Status
pub mod Commands
pub mod Texts
pub mod Said
pub mod Judged
pub mod Runs
pub mod Sought
