pub mod Kept
pub mod Tree
