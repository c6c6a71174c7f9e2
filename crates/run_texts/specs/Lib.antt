pub mod Counts
pub mod Texts
pub mod Captures
pub mod Counting
