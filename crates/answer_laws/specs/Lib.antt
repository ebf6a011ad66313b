-- to be believed
pub mod Forced
pub mod Entries
pub mod Answers
pub mod TurnedPlay
pub mod Turned
pub mod Plans
