pub mod Back
pub mod Telling
