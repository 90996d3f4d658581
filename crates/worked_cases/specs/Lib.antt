pub mod OtherDesks
pub mod StationK
pub mod Cases
