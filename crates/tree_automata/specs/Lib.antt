pub mod Kept
pub mod Batches
pub mod Open
pub mod Accepts
