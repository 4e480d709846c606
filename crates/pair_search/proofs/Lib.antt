pub mod Composed
pub mod Growing
pub mod Judging
pub mod Places
pub mod Walking
