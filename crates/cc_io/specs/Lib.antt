pub mod Faults
pub mod Bytes
pub mod Errors
pub mod Memory
pub mod Devices
pub mod MemoryLaw
