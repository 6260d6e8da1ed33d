-- What follows of the numbers.
pub mod Laws
