pub mod KeptPlans
pub mod GatheredParts
pub mod SteppedParts
pub mod SameBoxes
pub mod TakenParcels
mod FreeNumbers
