-- What the contracts of `clock` cite, in document 01's order: the limits, the two kinds of time, the drift rule.
pub mod Limits
pub mod Pick
pub mod Tests
pub mod Time
pub mod Drift
pub mod Fits
