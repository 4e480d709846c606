pub mod Ways
pub mod Numbers
pub mod Judging
pub mod Contracting
pub mod Shown
pub mod OneStep
pub mod OneCondition
pub mod Progress
