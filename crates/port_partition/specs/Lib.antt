pub mod Guard
pub mod Alike
