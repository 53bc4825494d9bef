mod LinkMoves
mod ClientMoves
mod Settled
mod Playing
mod Sparing
mod Unstopped
mod StormEvents
mod Opening
pub mod Storms
