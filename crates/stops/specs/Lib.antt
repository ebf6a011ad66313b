-- to be believed
pub mod Rule
pub mod Promise
