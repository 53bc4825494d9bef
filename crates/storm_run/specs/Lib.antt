pub mod Storming
