-- Laws of the lines, and where there is room for them.
pub mod Laws
pub mod Room
pub mod Counted
