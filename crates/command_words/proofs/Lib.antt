pub mod Readings
mod PairKeys
mod Once
pub mod KeysOnce
pub mod HeldAt
mod SignalledKeys
mod KeysRead
mod Numbers
mod QueryWords
mod TrackingFits
mod UnknownNames
