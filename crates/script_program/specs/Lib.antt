pub mod Complete
pub mod Pushed
pub mod Scripts
pub mod Written
