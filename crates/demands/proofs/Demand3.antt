-- Demand 3, over any lawful shares and of the public calls, with windows that are swept again.
pub mod Inside
pub mod Told
pub mod Again
pub mod Lent
pub mod AgainCases
