-- The laws of numbers as bytes, and the round trip.
pub mod Laws
pub mod RoundTrip
