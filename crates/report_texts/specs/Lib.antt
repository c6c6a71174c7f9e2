pub mod SlackTexts
pub mod HeardTexts
