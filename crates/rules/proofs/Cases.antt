-- Computed cases: document 01's sums and our own.
pub mod Sums
pub mod OwnCases
pub mod SecondCases
pub mod RefusalCases
pub mod TableCases
pub mod CardCases
