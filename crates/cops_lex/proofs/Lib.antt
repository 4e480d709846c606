pub mod Runs
pub mod Fronts
pub mod Pieces
pub mod Leads
pub mod Texts
