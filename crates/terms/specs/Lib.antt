pub mod Refusals
pub mod Ranges
pub mod Kinds
pub mod Values
pub mod Tables
pub mod Answers
pub mod Entered
