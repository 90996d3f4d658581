pub mod Panel
pub mod Laws
