pub mod PrefixLists
pub mod ModeState
pub mod Tracked
pub mod Texts
pub mod Commands
pub mod Laws
