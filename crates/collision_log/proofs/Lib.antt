pub mod LogOrder
pub mod OneLog
