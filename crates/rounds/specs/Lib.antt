-- to be believed
pub mod Going
-- inside
pub mod Joining
pub mod Seats
pub mod RootSets
pub mod Telling
pub mod Verdicts
pub mod Shares
