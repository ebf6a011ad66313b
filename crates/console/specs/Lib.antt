-- to be believed
pub mod Run
pub mod Playing
pub mod Order
