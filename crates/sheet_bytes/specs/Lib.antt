pub mod SheetBytes
pub mod Typed
