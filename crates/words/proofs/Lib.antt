pub mod Capped
pub mod WordLaws
pub mod Saturated
pub mod ForecastLoops
pub mod Called
