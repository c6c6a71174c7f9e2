pub mod CalmSenderExample
pub mod WithinExample
