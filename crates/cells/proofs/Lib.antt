pub mod Zipped
pub mod Laws
pub mod Ruled
pub mod Origins
pub mod Kept
pub mod Cases
