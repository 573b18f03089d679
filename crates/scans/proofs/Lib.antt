pub mod Pages
pub mod Stretches
