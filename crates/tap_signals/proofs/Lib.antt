pub mod StretchesGrow
pub mod PortsDecide
pub mod TapsOfLayout
pub mod KindsKnown
pub mod StretchesApart
pub mod StretchesDetermined
pub mod ToldByNet
pub mod StretchesExample
