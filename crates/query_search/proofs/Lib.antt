pub mod Turning
pub mod Assigning
pub mod Full
pub mod Ending
