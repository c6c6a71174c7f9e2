pub mod FreshFrames
pub mod FreshRows
pub mod NeededRoom
pub mod Receptions
pub mod RepeaterRows
pub mod Rooms
pub mod Sendings
pub mod Signals
