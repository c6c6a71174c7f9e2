pub mod Counters
pub mod Merged
pub mod Rows
