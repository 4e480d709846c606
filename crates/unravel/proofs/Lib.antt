pub mod Kept
pub mod NumberLists
pub mod Appended
pub mod Progress
pub mod SymbolLists
pub mod Sound
pub mod Whole
