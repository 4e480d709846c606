pub mod Bytes
pub mod Tokens
pub mod Syntax
pub mod Grammar
pub mod Refusals
pub mod Texts
pub mod Laws
