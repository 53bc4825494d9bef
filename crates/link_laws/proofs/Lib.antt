pub mod Crossing
mod Plain
mod Rows
mod SentMessages
