pub mod KeptReceiver
pub mod Receiver
