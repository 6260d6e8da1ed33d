-- How a script opens, the rehearsal that its parts are put together, and document 01's own computed on it.
pub mod Opening
pub mod Rehearsed
pub mod Printed
