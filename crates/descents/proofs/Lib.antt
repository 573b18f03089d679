pub mod Trees
pub mod Searches
pub mod Fits
