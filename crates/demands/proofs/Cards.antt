-- Cards beside slots: what stands beside each, and which cards of keys they are.
pub mod Beside
pub mod Gaps
pub mod Own
