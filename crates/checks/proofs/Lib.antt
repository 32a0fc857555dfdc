pub mod Distances
pub mod Places
pub mod Pairs
pub mod Told
pub mod Limits
