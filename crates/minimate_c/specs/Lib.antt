-- to be believed
pub mod Asked
pub mod Written
pub mod Stopping
-- inside
pub mod Owned
pub mod Putting
