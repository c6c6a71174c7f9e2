pub mod Taps
pub mod Runs
pub mod Heard
pub mod RunTexts
pub mod Reading
pub mod ReadBack
pub mod Faults
pub mod Bursts
