-- What reading gives, case by case, and the round trip of scripts.
pub mod ReadLaws
pub mod RoundTrip
pub mod Taken
