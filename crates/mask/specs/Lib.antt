-- Sets of stations: what they are.
pub mod Mask
