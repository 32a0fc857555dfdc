pub mod Shares
pub mod Rounds
