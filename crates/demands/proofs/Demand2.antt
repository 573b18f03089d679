-- Demand 2: the answers are the plain set's; slots, cards, forecast and moves are the rules'.
pub mod Answered
pub mod Ruled
pub mod Mixed
