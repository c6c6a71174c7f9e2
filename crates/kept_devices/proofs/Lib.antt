pub mod ChangedElements
pub mod Receivers
