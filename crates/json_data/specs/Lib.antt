-- to be believed
pub mod Data
