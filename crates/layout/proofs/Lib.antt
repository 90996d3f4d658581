pub mod Joined
pub mod Refused
pub mod Header
pub mod Counts
