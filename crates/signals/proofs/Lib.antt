pub mod Constants
pub mod Entries
pub mod Verdicts
