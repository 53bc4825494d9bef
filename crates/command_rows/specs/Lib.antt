pub mod Rows
pub mod Additions
