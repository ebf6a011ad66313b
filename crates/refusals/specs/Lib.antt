-- to be believed
pub mod Refusal
pub mod Reply
pub mod Outcome
pub mod Sentences
