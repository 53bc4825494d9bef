pub mod Extended
pub mod Counted
pub mod Rows
pub mod Taken
