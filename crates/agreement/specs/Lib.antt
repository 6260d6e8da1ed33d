-- Demand 3, what the clocks keep, the run cut into steps, and an example of what it says.
pub mod Statement
pub mod Clocks
pub mod ClockSums
pub mod ClockLaws
pub mod Among
pub mod Steps
pub mod Course
pub mod Kept
pub mod Timing
pub mod Signatures
pub mod Example
