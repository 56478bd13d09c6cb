pub mod Joined
pub mod Places
pub mod Texts
pub mod Trees
