pub mod Register
pub mod Frames
pub mod Octets
pub mod Table
