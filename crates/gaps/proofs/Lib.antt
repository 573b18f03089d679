pub mod Gaps
pub mod Natural
