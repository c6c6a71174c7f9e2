pub mod MailNames
pub mod Balance
