pub mod OnFrames
pub mod OnFresh
pub mod OnKept
pub mod OnMachines
pub mod OnPasses
pub mod OnPerforms
pub mod OnRuns
pub mod OnTicks
