-- to be believed
pub mod Output
pub mod Playing
pub mod First
pub mod Outcome
