pub mod Values
pub mod Changes
pub mod Dump
pub mod Waiting
pub mod Heard
pub mod Reading
pub mod WaveLaws
