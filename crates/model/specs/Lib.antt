-- The run of a whole line: its state, its record rules and its events; when a record is valid, what an accepted event says and
-- moves, and what a history tells.
pub mod Run
pub mod Record
pub mod Event
pub mod Valid
pub mod Allowed
pub mod Moves
pub mod History
