-- What the messages promise, and the theorem: demand 3 holds of every run, and of the example's.
pub mod Signatures
pub mod Messages
pub mod Broadcasts
pub mod Theorem
pub mod Example
