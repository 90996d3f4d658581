pub mod GroupRecords
pub mod FirstCarrier
pub mod Guaranteed
pub mod Cases
