pub mod Walks
pub mod Rules
pub mod Parts
pub mod Apart
