-- For all crates that prove about lists by index.
pub mod Places
-- For what is listed: lists of lists, lists that are joined.
pub mod Lists
-- For tests and limits.
pub mod Numbers
-- For what may be there.
pub mod Options
-- For facts that are decided.
pub mod Decisions
