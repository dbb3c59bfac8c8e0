pub mod Legs
pub mod Valuing
pub mod Replying
pub mod OneStop
