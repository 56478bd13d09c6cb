pub mod Accepted
pub mod Activities
pub mod Fails
pub mod Laws
pub mod Ranks
pub mod Rules
pub mod Walks
pub mod inner
