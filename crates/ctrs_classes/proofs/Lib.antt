pub mod Lists
pub mod Firsts
pub mod Linear
pub mod Ground
pub mod Prefixes
