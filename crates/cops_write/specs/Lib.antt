pub mod Text
pub mod Grows
pub mod Numbered
pub mod Laws
