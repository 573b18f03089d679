-- What a sweep leaves: counts of windows, the swept window, sizes; and what stays where none is.
pub mod Settled
pub mod Sizes
pub mod Unswept
pub mod SweptWindow
