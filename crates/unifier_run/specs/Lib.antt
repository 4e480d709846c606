pub mod Run
pub mod Laws
pub mod Overlaps
pub mod Triples
pub mod Irreducible
pub mod Totality
