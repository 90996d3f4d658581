pub mod Same
pub mod Typed
pub mod RoundTrip
pub mod Stores
pub mod ZonePlaces
pub mod Stands
pub mod Kept
