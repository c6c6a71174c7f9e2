pub mod Stops
pub mod Far
pub mod Verdicts
pub mod Propagation
