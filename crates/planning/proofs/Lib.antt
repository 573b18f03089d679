pub mod Parts
pub mod Scanning
pub mod Ranges
pub mod Levels
