pub mod KeysAbove
pub mod Passed
pub mod Pasts
pub mod LookedUp
pub mod ScannedFrom
