pub mod StationK
pub mod OtherDesks
