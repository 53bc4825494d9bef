pub mod Setups
pub mod Turns
