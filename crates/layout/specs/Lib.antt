pub mod Layout
pub mod Counts
