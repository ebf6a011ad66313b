-- to be believed
pub mod Notation
pub mod Texts
