pub mod ResumedFrames
pub mod ResumedCaptures
