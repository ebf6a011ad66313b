-- to be believed
pub mod Run
pub mod Words
