pub mod GuardLaws
pub mod Reading
pub mod TurnLaws
