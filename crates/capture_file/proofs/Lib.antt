pub mod Walk
pub mod Stream
pub mod Joined
pub mod Written
