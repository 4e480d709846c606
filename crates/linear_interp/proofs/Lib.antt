pub mod Adding
pub mod Entries
pub mod Judging
pub mod EntryChecks
pub mod Final
pub mod Positions
