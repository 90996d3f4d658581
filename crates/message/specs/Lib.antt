pub mod Fields
pub mod Kind
pub mod Record
