pub mod Taking
pub mod Judged
pub mod OneTally
pub mod SomeTally
pub mod Telling
