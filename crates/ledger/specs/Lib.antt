pub mod Sums
pub mod Postings
pub mod Accounts
pub mod Report
