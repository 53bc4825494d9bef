pub mod Walking
pub mod Finishing
pub mod Building
pub mod Numbers
pub mod Reading
pub mod Words
pub mod LastColon
