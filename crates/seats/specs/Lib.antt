pub mod Bounds
pub mod Halves
