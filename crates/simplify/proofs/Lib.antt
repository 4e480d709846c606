pub mod Slices
pub mod Naming
pub mod Placing
pub mod Altered
pub mod Replaced
pub mod Loop
pub mod Instances
