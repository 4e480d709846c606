pub mod Places
pub mod Segments
pub mod Known
pub mod Onward
