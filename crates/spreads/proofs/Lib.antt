pub mod Packing
mod Laying
pub mod Inserting
