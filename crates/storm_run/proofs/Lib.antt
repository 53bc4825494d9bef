mod Counting
mod Storming
