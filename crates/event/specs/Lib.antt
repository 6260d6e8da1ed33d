-- The events, and rule 11.
pub mod Event
