-- Demand 1: rows and their tests, in order, and what a refused call leaves.
pub mod CheckCases
pub mod Refused
pub mod RowsInOrder
pub mod Rows
pub mod Row4
pub mod Row13
pub mod Row14
pub mod Numbers
pub mod Told
