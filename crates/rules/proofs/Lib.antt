pub mod Sharing
pub mod Cases
