pub mod Partnered
pub mod Ends
pub mod Pairs
pub mod Renumbered
pub mod Cases
