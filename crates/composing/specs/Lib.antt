-- to be believed
pub mod Solution
pub mod Certifying
pub mod Drawings
pub mod Order
-- inside
pub mod Claims
pub mod Parts
pub mod Searched
