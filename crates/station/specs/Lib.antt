-- The rules of one station, what its record must keep, and the limits within which no number of it wraps.
pub mod Station
pub mod Limits
pub mod Record
pub mod Laws
