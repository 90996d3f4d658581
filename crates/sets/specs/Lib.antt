pub mod Range
pub mod Sets
pub mod Table
