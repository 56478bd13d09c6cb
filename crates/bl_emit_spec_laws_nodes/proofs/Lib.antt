pub mod OnCopied
pub mod OnFitting
pub mod OnPoints
pub mod OnPrevs
pub mod OnSeen
pub mod OnViews
