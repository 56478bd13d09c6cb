pub mod OnJoins
pub mod OnTurns
pub mod OnWaiting
