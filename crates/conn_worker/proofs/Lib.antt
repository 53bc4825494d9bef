pub mod Complete
pub mod Leaving
mod Quitting
pub mod Stopping
mod Further
mod Turning
mod Running
mod Ticking
mod Delivering
mod Doing
mod Progress
pub mod Serving
mod Hearing
mod Sessions
pub mod Parting
