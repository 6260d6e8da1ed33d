-- Document 01's marked values, in one table.
pub mod Table
