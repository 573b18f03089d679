pub mod ByVerdict
pub mod Refused
