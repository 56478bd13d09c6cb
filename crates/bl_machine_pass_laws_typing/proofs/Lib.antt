pub mod OnFits
pub mod OnSeen
pub mod OnStarts
