pub mod Division
pub mod Frame
pub mod Queue
pub mod Register
