pub mod Choices
pub mod Chosen
pub mod Dead
pub mod Grid
pub mod Pruned
pub mod Shape
