pub mod ByRecords
pub mod Fits
