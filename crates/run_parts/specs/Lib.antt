pub mod Words
pub mod Devices
pub mod Taken
pub mod Texts
pub mod Bytes
pub mod Answers
