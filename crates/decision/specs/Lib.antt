-- to be believed
pub mod Calls
pub mod Questions
pub mod Decisions
pub mod Memories
pub mod Turned
-- inside
pub mod Callers
