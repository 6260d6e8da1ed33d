-- What one pass over the flight notes, and the laws that tell from the notes whether a message is overdue or has a twin.
pub mod Notes
pub mod Marks
