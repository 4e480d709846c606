pub mod Words
pub mod Walks
pub mod Nodes
pub mod Choices
pub mod CertRefusals
