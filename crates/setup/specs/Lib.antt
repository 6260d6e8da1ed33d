-- A planned line: its rules, in document 01's order, and what follows from them.
pub mod Setup
pub mod Laws
