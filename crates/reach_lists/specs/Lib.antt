pub mod Sites
pub mod Solutions
pub mod Lists
pub mod Codes
pub mod Queue
pub mod Laws
pub mod Paths
pub mod DepthFirst
