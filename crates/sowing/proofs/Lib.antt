pub mod Gathered
pub mod Sown
