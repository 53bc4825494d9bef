pub mod Asking
pub mod Crossing
pub mod Filling
pub mod Keys
pub mod Lines
pub mod Mapped
