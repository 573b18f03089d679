pub mod ChangeGiven
