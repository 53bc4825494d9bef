pub mod Headline
pub mod Playing
pub mod Scripting
pub mod Serving
pub mod Storming
pub mod Complete
