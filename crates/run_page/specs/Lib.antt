pub mod LayoutLines
pub mod SignalLines
pub mod RowLines
pub mod Pages
pub mod PageLaws
