pub mod Plain
pub mod Lending
pub mod Places
