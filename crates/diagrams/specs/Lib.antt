-- to be believed
pub mod Places
pub mod Drawing
pub mod Shapes
pub mod Pictures
