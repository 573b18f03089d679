pub mod Gathered
pub mod GapCards
