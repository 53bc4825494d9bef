pub mod Asks
pub mod Filled
