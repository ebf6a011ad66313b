-- to be believed
pub mod Outputs
pub mod Runs
