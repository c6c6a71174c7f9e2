mod LeapsAreSteps
mod ReceivedOctets
mod RowsOfReceptions
pub mod StepsKeepMeaning
mod WholePieces
