-- The bytes of a number made one behind the other.
pub mod Groups
