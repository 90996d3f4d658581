pub mod EachKind
pub mod Numbers
pub mod RoundTrips
