pub mod OnBegins
pub mod OnCounters
pub mod OnEntry
pub mod OnFiles
pub mod OnStates
