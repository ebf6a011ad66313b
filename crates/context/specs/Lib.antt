-- to be believed
pub mod Limits
pub mod Naming
pub mod Searching
pub mod Shown
