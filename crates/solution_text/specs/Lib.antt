-- to be believed
pub mod Text
pub mod WholeText
pub mod Telling
pub mod Cut
pub mod Data
