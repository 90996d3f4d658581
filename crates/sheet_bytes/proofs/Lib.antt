pub mod Records
pub mod Stores
pub mod OneRecord
pub mod Header
pub mod Inverse
pub mod Typed
