pub mod OnEnds
pub mod OnFrames
pub mod OnFunctions
pub mod OnKept
pub mod OnPlain
pub mod OnRules
pub mod OnStates
pub mod OnTraces
