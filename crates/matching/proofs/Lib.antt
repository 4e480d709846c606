pub mod SideBySide
pub mod Progress
pub mod Parts
pub mod Unmatched
pub mod Least
pub mod Shapes
pub mod Noted
