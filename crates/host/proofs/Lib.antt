pub mod Sized
pub mod Misfits
