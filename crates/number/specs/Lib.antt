-- Numbers as bytes: how they are read and written.
pub mod Number
