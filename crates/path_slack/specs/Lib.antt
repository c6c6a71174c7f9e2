pub mod Lengthened
pub mod Crossings
pub mod Pairs
pub mod Branches
pub mod Slacks
