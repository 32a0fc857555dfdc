pub mod Kept
pub mod Held
pub mod Tally
pub mod Cross
