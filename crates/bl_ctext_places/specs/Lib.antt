pub mod Counters
pub mod Lists
pub mod Names
pub mod Places
