-- The laws of a run: the order of its refusals, that every event keeps the record valid, what an accepted event moves, and how
-- many messages the history leaves in flight; and document 01's rehearsal computed on it.
pub mod Order
pub mod Valid
pub mod Allowed
pub mod Moves
pub mod ValidSteps
pub mod History
pub mod Rehearsal
