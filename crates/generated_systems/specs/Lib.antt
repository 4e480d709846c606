pub mod Generated
pub mod Certificate
pub mod Laws
