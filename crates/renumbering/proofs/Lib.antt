pub mod Parted
pub mod Rows
pub mod Spreads
pub mod Numbered
pub mod Filling
