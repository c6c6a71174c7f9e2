pub mod ProbeEnds
pub mod PageTexts
pub mod PictureEnds
pub mod FrameEnds
pub mod StopEnds
pub mod TapsOfWords
pub mod TapTexts
pub mod DemoTexts
