pub mod Lines
pub mod Ends
pub mod Session
pub mod Reports
pub mod Complete
