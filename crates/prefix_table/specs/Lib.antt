pub mod Table
pub mod Places
pub mod Fronts
pub mod Order
pub mod Withdrawals
