pub mod Orders
pub mod Members
pub mod DueKeys
pub mod Fronts
pub mod Parts
pub mod Halving
pub mod Joined
pub mod Past
