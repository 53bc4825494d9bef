pub mod PlainEntries
pub mod Keyed
pub mod Changes
pub mod Distinct
pub mod Placing
