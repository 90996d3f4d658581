pub mod Signals
pub mod Answer
