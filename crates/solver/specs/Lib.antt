-- to be believed
pub mod Stopping
pub mod Placing
-- inside
pub mod PlaceRule
