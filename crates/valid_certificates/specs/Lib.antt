pub mod Kinds
pub mod PairEvidence
pub mod Entries
pub mod Confluence
pub mod Peaks
pub mod Certificates
pub mod Laws
pub mod CarriedBack
