pub mod Pairs
pub mod Levels
pub mod Walks
pub mod Entries
pub mod Tables
pub mod Same
pub mod SlotCounts
