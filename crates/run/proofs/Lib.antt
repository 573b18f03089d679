pub mod Readings
pub mod Admitted
pub mod OneOutcome
pub mod Differences
