pub mod Decoding
pub mod Line
pub mod Reading
