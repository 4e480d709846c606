pub mod Size
pub mod Judgement
pub mod Linear
pub mod Judged
pub mod Law
