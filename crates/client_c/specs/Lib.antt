pub mod Made
pub mod Pointer
