pub mod Kinds
pub mod Taps
pub mod Stretches
pub mod Signals
pub mod Told
pub mod Laws
