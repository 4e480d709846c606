pub mod Roots
pub mod Index
pub mod Linear
pub mod IndexView
pub mod Parts
pub mod Levels
pub mod WalkView
pub mod IndexedView
