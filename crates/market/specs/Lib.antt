pub mod Book
pub mod Market
pub mod Laws
pub mod Sweeps
pub mod Seen
