-- to be believed
pub mod FirstLine
pub mod Words
pub mod Refusals
pub mod Certificate
pub mod Checking
pub mod Reading
-- inside
pub mod Yielding
pub mod Taking
pub mod Index
