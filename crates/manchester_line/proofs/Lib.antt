pub mod DecoderAnswers
mod FramePairs
mod KeptOctets
pub mod Levels
mod Packed
mod Pieces
mod PutBits
pub mod Places
pub mod PushedMore
mod Reader
mod ReaderReads
mod RoundTrip
mod WholeOctets
