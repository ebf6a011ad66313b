-- to be believed
pub mod Turnings
