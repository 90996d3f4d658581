pub mod Minutes
pub mod Laws
