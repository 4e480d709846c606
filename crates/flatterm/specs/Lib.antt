pub mod Cells
pub mod Laid
pub mod Place
pub mod Replaced
pub mod Marks
pub mod Work
