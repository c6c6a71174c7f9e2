pub mod NumbersInWords
