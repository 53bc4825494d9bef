pub mod Told
pub mod Causes
pub mod Drops
pub mod Sent
pub mod Laws
