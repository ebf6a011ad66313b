-- to be believed
pub mod Squares
pub mod MoveText
pub mod Reach
pub mod Moves
pub mod Order
pub mod Forces
pub mod Reading
pub mod Rays
-- inside
pub mod Listing
