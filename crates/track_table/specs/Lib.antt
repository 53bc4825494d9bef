pub mod Table
pub mod Places
pub mod Order
pub mod Marks
pub mod Aged
pub mod Holdings
pub mod Aside
