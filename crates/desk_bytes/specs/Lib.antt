pub mod Encoding
pub mod StandAt
pub mod Typed
