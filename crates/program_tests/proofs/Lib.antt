pub mod BarExample
pub mod DoneExample
pub mod ReadDumpExample
