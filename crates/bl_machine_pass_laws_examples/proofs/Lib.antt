pub mod Numbers
pub mod PassesAlone
pub mod PassesCalling
pub mod PassesInTurn
pub mod Turning
