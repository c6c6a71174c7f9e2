pub mod FedReaders
pub mod LoadsSoFar
pub mod Numbers
