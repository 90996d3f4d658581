pub mod Past
pub mod Writer
pub mod Laws
