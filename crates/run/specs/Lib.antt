pub mod Sums
pub mod Admits
pub mod Differences
