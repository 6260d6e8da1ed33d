-- Writing into a lent buffer: what it gives, then the laws.
pub mod Write
pub mod Laws
