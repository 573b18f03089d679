pub mod Acted
pub mod ActedCells
pub mod ActedShift
