pub mod Stretched
pub mod Eights
pub mod Readers
pub mod SegmentReads
pub mod SegmentCounts
