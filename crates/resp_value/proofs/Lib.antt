pub mod InTurn
pub mod OneToOne
pub mod Prefixes
pub mod SpellingSteps
pub mod TwoParts
