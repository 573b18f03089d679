pub mod CellChecks
