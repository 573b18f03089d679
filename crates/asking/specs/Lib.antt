pub mod Requested
