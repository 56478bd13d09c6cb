pub mod OnCalled
pub mod OnKnown
