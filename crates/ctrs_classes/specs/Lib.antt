pub mod Walks
pub mod RegionView
pub mod Faults
pub mod Answers
