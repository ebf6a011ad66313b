-- to be believed
pub mod Text
pub mod Naming
