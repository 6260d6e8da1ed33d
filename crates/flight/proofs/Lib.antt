-- The laws of the words that hold a flight.
pub mod Coding
pub mod Keys
pub mod Places
pub mod Sending
