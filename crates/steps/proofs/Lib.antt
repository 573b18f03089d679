pub mod TurnOf
pub mod CardTurn
pub mod MidWork
