pub mod Size
pub mod Going
pub mod Steps
pub mod Meaning
pub mod Runs
