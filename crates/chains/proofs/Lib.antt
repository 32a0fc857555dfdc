mod Link
mod Pick
mod Walk
mod Questions
mod Layouts
mod Kept
mod Whole
mod Changes
mod Fresh
mod Search
mod Clear
mod Reduce
mod Seek
pub mod Totals
