pub mod GoodNumbers
pub mod Prefixes
pub mod Some
