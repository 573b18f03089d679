pub mod Over
pub mod Sizes
pub mod Numbers
pub mod Leaves
pub mod OneOutcome
