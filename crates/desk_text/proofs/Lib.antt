pub mod Printed
pub mod SheetCut
pub mod Cut
