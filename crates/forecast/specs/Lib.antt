pub mod Ahead
pub mod Cells
pub mod Faults
pub mod Tidy
