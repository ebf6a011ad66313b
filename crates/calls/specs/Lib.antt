-- to be believed
pub mod Room
pub mod Playing
pub mod Calls
