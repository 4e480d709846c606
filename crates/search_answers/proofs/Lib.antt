pub mod Refused
pub mod OrElse
pub mod Walking
