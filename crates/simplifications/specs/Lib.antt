pub mod Inlining
pub mod Simplifying
pub mod Laws
pub mod Examples
