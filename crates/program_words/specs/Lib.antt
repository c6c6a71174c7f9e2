pub mod WordLimits
pub mod Requests
