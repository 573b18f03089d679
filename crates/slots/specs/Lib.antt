pub mod Layout
pub mod Segments
pub mod Windows
pub mod Keys
pub mod Orders
pub mod Shown
pub mod Stretches
