pub mod Calm
pub mod Deference
pub mod Emissions
pub mod Laws
pub mod Resuming
pub mod Sender
pub mod Starts
pub mod Attempts
