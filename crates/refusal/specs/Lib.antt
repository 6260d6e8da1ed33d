-- The numbers that a caller gets back.
pub mod Refusal
