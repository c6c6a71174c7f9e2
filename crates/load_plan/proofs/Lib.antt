pub mod EarlierTimes
pub mod PlansAreSound
