pub mod Groups
pub mod Cases
