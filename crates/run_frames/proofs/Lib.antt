pub mod FramelessRows
pub mod NumberedFrames
pub mod StationRuns
pub mod EndedOnce
pub mod HadRows
pub mod NamedDevices
pub mod SentRows
pub mod RunTables
