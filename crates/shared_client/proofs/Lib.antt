pub mod Crossing
pub mod Did
pub mod Outcomes
