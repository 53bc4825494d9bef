pub mod Seen
pub mod Sendings
pub mod Made
pub mod Ends
pub mod Past
