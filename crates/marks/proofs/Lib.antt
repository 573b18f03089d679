pub mod Spots
pub mod CellMarks
pub mod Standing
pub mod Handed
