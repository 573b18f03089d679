-- The table of shares, computed against its formulas, and the numbers of the profiles.
pub mod Table
pub mod Profiles
