pub mod Overlaps
pub mod PrefixLemmas
