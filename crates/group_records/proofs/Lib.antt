pub mod Search
pub mod Likes
pub mod FirstCarrier
pub mod Guaranteed
pub mod Cases
