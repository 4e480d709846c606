pub mod Lists
pub mod Numbers
pub mod Sets
pub mod Used
