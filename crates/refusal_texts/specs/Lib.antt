pub mod Refusals
pub mod Files
pub mod Certificates
pub mod Queries
