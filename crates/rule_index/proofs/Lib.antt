pub mod Buckets
pub mod Systems
pub mod Walks
pub mod Numbers
pub mod Linear
pub mod Standing
pub mod Levels
pub mod Deepest
