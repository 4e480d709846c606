pub mod Rules
pub mod Classes
pub mod Runs
pub mod Conflicts
pub mod Entries
pub mod Overlaps
pub mod Texts
pub mod Found
