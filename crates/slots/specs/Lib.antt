-- to be believed
pub mod Machine
pub mod Rule
pub mod Steps
pub mod Promise
