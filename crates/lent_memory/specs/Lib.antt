-- to be believed
pub mod Ownership
