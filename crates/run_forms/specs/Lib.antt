pub mod LoadLines
pub mod WrittenBy
