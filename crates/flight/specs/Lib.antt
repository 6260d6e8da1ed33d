-- The messages on their way: what a flight is and how words hold it, then the laws of lists of messages.
pub mod Message
pub mod Members
pub mod Apart
pub mod Keys
