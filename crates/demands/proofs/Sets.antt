-- The plain sorted set, and the calls beside it.
pub mod SetLaws
pub mod PlainSet
pub mod SetCards
pub mod SetScan
pub mod SetLookup
pub mod SetSteps
