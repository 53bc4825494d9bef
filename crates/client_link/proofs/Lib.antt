pub mod Steps
pub mod Turning
pub mod Delivering
pub mod Getting
pub mod Pumping
pub mod Calling
