pub mod Options
pub mod Clap
pub mod Commands
