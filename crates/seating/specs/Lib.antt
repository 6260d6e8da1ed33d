-- Stations in a table that the caller lends; and what a walk over such a table shares with another: the words it speaks in, a
-- call, and the table lent on.
pub mod Seating
pub mod Stations
pub mod Calls
pub mod Lending
