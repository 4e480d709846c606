pub mod NameTable
pub mod NameLists
pub mod NamesView
pub mod NameSetView
