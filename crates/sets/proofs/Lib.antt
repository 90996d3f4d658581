pub mod Membership
pub mod Members
pub mod Counting
pub mod Ranges
pub mod Tables
pub mod Finding
pub mod Totals
pub mod Sizes
