pub mod Accepted
pub mod Blocked
pub mod Laws
pub mod FitsGraph
pub mod Places
pub mod Reached
pub mod Reading
