-- The tests of deliver and faulty send, that the code follows the model, and the laws of a part.
pub mod Hearing
pub mod Follows
pub mod PartLaws
