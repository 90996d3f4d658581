pub mod ByPair
pub mod VersionOne
pub mod AcceptedRoute
pub mod Accepted
pub mod Judging
pub mod Cases
pub mod Reading
