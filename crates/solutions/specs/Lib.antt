-- to be believed
pub mod Lines
pub mod Solutions
pub mod Whole
pub mod Changes
pub mod Data
