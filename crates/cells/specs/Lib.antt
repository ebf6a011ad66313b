-- to be believed
pub mod Mailbox
pub mod CellSets
pub mod Leaps
pub mod Ways
-- inside
pub mod StepTables
