pub mod MailNamesTell
pub mod StepsKeepBalance
