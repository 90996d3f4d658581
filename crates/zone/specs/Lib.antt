pub mod Work
pub mod Movement
pub mod Trains
pub mod Zone
