pub mod Routes
pub mod Messages
