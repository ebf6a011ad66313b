-- to be believed
pub mod Verdict
pub mod Verifying
pub mod Order
