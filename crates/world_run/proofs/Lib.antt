pub mod Answering
pub mod Counts
pub mod Linked
pub mod Printing
pub mod Holding
pub mod Received
pub mod Replied
mod Below
mod Wires
mod Causal
mod Members
mod Turns
mod Links
mod Names
mod Worlds
mod Seats
mod SeatMoves
mod SeatTurns
mod Reading
mod Clients
mod LinkEvents
mod Joining
mod Flowing
mod Kept
mod WorldKept
mod Skipping
mod WorldClock
mod WorldFlows
mod WorldEvents
mod ScheduleLogLines
mod ScheduleLogMoves
mod ScheduleLogEvents
mod ReadLogMoves
mod ReadLogSeats
mod ReadLogEvents
mod ScheduleLogs
mod Schedules
mod HitLines
mod Hits
mod Others
mod Places
mod Refusals
mod RefusedEvents
pub mod History
pub mod Played
pub mod WorldCode
