pub mod PartnerRecords
pub mod Crossovers
pub mod Cases
