pub mod Traffic
pub mod Fetch
pub mod Current
pub mod Complete
pub mod Opened
