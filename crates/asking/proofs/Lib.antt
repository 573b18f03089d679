pub mod OneRecord
