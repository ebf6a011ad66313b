-- to be believed
pub mod Searching
pub mod Gates
pub mod Tables
pub mod Limits
pub mod Best
pub mod First
