pub mod Clearance
pub mod Keys
pub mod Routes
pub mod Tests
pub mod Kinds
