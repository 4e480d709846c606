pub mod Redexes
pub mod Judged
