pub mod Replies
pub mod Papers
pub mod OneOutcome
pub mod Chains
pub mod Sums
pub mod LentCases
