-- to be believed
pub mod Text
pub mod Place
pub mod Signs
