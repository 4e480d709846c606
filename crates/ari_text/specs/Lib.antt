pub mod Signs
pub mod Spelling
pub mod Pieces
pub mod Grammar
pub mod ReaderView
pub mod Reads
pub mod Functions
pub mod Texts
