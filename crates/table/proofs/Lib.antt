-- That the run on a lent table is the run by value, event by event.
pub mod Same
pub mod Kept
