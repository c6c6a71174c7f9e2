pub mod FinishedParts
