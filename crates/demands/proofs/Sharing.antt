-- The split by weights, sharing out, and the climb to a window.
pub mod SharingOut
pub mod Splits
pub mod Climb
pub mod Weighing
