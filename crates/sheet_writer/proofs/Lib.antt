pub mod Search
pub mod Described
pub mod ReadTyped
pub mod Laws
pub mod Copied
