pub mod Moving
pub mod Fronts
pub mod Fours
