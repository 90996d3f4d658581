pub mod Started
pub mod Typed
pub mod Follows
pub mod OneByOne
pub mod Demand3
pub mod Codes
pub mod Calls
pub mod Separation
