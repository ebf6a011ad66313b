-- to be believed
pub mod Program
pub mod Words
-- inside
pub mod Making
