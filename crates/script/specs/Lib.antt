-- Scripts: setups and events as numbers, and whole scripts.
pub mod Read
pub mod Write
pub mod Script
