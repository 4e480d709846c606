pub mod NoRules
pub mod Ones
pub mod Judged
