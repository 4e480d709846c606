pub mod OriginView
