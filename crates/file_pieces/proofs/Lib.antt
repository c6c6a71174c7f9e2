pub mod GivenInTurn
