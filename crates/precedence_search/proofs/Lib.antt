pub mod Splits
pub mod Turning
pub mod Walking
pub mod Completing
pub mod Seeing
pub mod Visits
