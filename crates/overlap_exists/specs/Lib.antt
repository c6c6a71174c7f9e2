pub mod NearPairs
pub mod DetectedCollisions
