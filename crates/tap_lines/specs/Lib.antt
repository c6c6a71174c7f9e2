pub mod TapLines
pub mod Signals
pub mod TapLists
