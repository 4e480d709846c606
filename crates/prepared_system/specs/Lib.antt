pub mod Renamed
pub mod PreparedView
