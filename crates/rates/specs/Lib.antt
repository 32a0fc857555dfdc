pub mod Marks
pub mod Views
pub mod Runs
pub mod Scopes
pub mod Firms
pub mod Told
