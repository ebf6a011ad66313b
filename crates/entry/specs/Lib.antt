-- to be believed
pub mod Bounds
pub mod Packing
pub mod Keys
pub mod Truth
pub mod Laws
pub mod Prefers
pub mod Preference
pub mod NoZeros
-- inside
pub mod Marks
