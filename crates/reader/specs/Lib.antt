-- The script reader: what it reads and where it stands then, the laws of a place, what it reads one thing after the other,
-- and where a reading stops.
pub mod Reader
pub mod Laws
pub mod Agree
