pub mod Verbs
pub mod Calls
pub mod Spelling
pub mod Answers
pub mod Names
