-- The laws of sets of stations.
pub mod Laws
