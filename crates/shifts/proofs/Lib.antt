pub mod InSegment
pub mod Shifted
