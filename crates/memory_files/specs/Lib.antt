pub mod Calls
pub mod Sinks
pub mod Stores
