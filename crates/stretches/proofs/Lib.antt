pub mod NextMark
pub mod Weighing
pub mod Valley
pub mod Looks
pub mod Parts
