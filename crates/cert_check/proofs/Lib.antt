pub mod Rejected
pub mod Bounds
pub mod Reading
pub mod Texts
pub mod FileYes
pub mod BodyReasons
pub mod Levels
pub mod Simplified
