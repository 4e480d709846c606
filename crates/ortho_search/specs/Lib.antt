pub mod ItemView
