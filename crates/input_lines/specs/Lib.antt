-- to be believed
pub mod Lines
pub mod Within
pub mod Mark
