pub mod OtherEnds
pub mod Turns
