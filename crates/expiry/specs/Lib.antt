pub mod Index
pub mod Order
pub mod Places
pub mod Blocks
pub mod Laws
