pub mod Spread
pub mod Rows
pub mod NumberingView
