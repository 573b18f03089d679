pub mod Halves
pub mod Bounds
pub mod Indexes
pub mod Seats
