pub mod Kinds
pub mod Answers
pub mod BytesErrors
pub mod Bytes
