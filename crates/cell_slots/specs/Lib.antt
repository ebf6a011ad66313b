-- to be believed
pub mod OneHistory
pub mod Table
pub mod Cell
