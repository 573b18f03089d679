pub mod Tables
pub mod Levels
