pub mod Pumps
pub mod Callers
