pub mod Ranges
pub mod Distinct
pub mod Sound
pub mod Accepted
pub mod Trees
pub mod Identifiers
pub mod Written
