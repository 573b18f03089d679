pub mod Answers
pub mod Admits
pub mod Chains
