pub mod Words
pub mod Decimals
pub mod Counted
pub mod Parting
pub mod Telling
