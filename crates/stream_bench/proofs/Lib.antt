pub mod Counting
pub mod Repeating
