pub mod Distances
pub mod Parameters
