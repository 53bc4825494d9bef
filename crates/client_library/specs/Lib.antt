pub mod Foreign
pub mod Guarded
pub mod Handles
pub mod Library
pub mod Options
pub mod Refused
pub mod Requests
pub mod Unknown
