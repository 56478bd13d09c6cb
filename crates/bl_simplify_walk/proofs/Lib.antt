pub mod OnBlocks
pub mod OnForms
pub mod OnJoined
pub mod OnSame
