pub mod InPlace
pub mod Separate
