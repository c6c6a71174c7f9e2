pub mod TapStops
