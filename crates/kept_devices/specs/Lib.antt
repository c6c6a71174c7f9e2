pub mod KeptReceivers
