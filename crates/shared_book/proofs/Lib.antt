pub mod Histories
pub mod Did
pub mod Outcomes
pub mod Passing
pub mod Batches
pub mod Each
