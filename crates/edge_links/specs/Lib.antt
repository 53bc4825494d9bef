pub mod Counts
pub mod Streams
pub mod Links
pub mod Memory
pub mod MemoryLinks
pub mod Writes
