pub mod Conditions
pub mod Rooms
pub mod Renamed
