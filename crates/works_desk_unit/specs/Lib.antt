pub mod Unit
pub mod OneByOne
pub mod Calls
pub mod Separation
