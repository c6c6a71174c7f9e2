pub mod RowWaits
pub mod KeptRepeaters
pub mod LeapedHalfBits
pub mod PutAside
pub mod Logging
pub mod RepeaterNumbers
pub mod CalmWindows
