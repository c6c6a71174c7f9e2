pub mod Holdings
pub mod Holders
pub mod Shares
pub mod Ties
pub mod SharesOnBoards
