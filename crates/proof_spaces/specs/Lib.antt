pub mod Combined
pub mod Proofs
pub mod Prices
pub mod Endings
pub mod Laws
