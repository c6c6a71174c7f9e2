pub mod PlannedShares
pub mod FinishedParts
pub mod PartMakers
pub mod SteppedShares
pub mod ReceivedParcels
