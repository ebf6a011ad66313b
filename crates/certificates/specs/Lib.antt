-- to be believed
pub mod Claims
pub mod Answers
