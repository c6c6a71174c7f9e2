pub mod Names
pub mod Captures
pub mod Reading
pub mod Writing
