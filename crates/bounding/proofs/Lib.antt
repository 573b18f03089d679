pub mod Rewritten
pub mod Changes
pub mod Kept
