pub mod Completing
pub mod Reading
pub mod Writing
