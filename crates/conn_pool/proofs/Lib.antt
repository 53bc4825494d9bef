pub mod Complete
mod Crossing
mod Showing
mod Tying
mod Parting
mod Once
mod Leaving
mod Hosting
mod Visiting
mod Sorting
mod Adding
