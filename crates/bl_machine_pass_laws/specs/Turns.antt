pub mod Dozes
pub mod Holds
pub mod Invariant
pub mod Laws
pub mod Rooted
pub mod Sits
