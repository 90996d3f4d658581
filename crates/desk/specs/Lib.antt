pub mod Desk
pub mod Questions
pub mod Separate
