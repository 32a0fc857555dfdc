pub mod Rows
pub mod Kept
pub mod Cuts
pub mod Entered
pub mod Tokens
pub mod Played
pub mod Sides
