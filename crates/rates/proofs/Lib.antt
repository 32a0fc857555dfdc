pub mod Steps
pub mod Sound
pub mod Seen
pub mod Notices
pub mod Whole
