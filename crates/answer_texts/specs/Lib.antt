-- to be believed
pub mod Answers
