pub mod Cases
pub mod Playing
