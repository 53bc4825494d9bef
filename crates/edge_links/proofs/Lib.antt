mod Pieces
pub mod Bytes
