pub mod Orders
pub mod Registering
pub mod Fronts
pub mod Matching
pub mod Withdrawals
pub mod Several
