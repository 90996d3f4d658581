pub mod Sheet
pub mod Accepted
pub mod VersionOne
pub mod Cases
