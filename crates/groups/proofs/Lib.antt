pub mod Labels
pub mod Ties
pub mod Numbers
pub mod Cases
