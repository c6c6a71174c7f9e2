mod LongSignals
mod MarkedFrames
mod OctetsOfReadings
pub mod PaidRoom
mod ReceiverRoom
mod ReceptionBounds
mod ReceptionSteps
mod RepeaterPays
mod SendingBounds
mod SendingGaps
mod StationCaptures
