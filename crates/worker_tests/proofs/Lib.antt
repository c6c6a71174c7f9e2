pub mod TurnExample
pub mod PastExample
pub mod FinishedExample
pub mod CalmNetExample
