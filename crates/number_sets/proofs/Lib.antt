pub mod Members
pub mod Bits
pub mod Shared
pub mod Related
