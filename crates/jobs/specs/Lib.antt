-- to be believed
pub mod JobBoard
pub mod Rule
pub mod Promise
pub mod Deals
