pub mod Wires
pub mod KeptNet
pub mod CalmNets
pub mod Stops
