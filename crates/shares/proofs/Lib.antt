pub mod Laws
pub mod Rounding
