pub mod TapLines
pub mod OnePages
pub mod PlainWords
pub mod PlainLines
pub mod PictureRows
