pub mod Commands
pub mod Told
pub mod Unread
pub mod Causes
