pub mod Answers
pub mod Text
