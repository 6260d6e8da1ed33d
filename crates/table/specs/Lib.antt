-- A run on a table that the caller lends: what is answered and the table then, the core by value that is called, and that both
-- are the same run.
pub mod Table
pub mod Core
pub mod Same
