pub mod RunGiven
