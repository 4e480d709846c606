pub mod Reading
pub mod ReadingView
pub mod OpenedText
pub mod Front
