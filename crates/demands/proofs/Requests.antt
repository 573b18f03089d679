-- One request: when it is accepted, what it does, and that what is valid stays valid.
pub mod Accepted
pub mod Moved
pub mod KeysKept
pub mod CardsKept
pub mod StaysGood
pub mod Checked
pub mod CardsChecked
pub mod Tabled
pub mod Shown
pub mod SingleCalls
pub mod MadeEmpty
pub mod OutcomeCases
pub mod MoveBound
