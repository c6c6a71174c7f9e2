pub mod Quiet
pub mod Resumed
pub mod LastSignals
pub mod PlanStates
pub mod Laws
