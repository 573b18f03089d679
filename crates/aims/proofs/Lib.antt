pub mod Standing
pub mod Places
pub mod Answers
pub mod AimedIn
pub mod AimedOut
