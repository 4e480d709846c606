pub mod Caps
pub mod Evidence
pub mod Laws
pub mod Totality
