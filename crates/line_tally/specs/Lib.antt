-- to be believed
pub mod Text
pub mod Drawing
pub mod Quiet
