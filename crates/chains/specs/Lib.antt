pub mod Slots
pub mod Asks
pub mod Chain
pub mod Sound
pub mod Lists
pub mod Steps
pub mod Walks
