mod Pushes
pub mod FlatTrees
mod FlatBlocks
mod Words
pub mod Parsed
