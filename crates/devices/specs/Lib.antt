-- to be believed
pub mod Device
pub mod Input
