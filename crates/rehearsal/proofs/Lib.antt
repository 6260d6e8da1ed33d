-- The parts of a script put together are the rehearsal.
pub mod Rehearsed
