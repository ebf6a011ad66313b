-- to be believed
pub mod Batch
pub mod Order
-- inside
pub mod BatchRun
