pub mod Walking
pub mod RightTables
pub mod Resums
pub mod Spliced
pub mod Cleared
