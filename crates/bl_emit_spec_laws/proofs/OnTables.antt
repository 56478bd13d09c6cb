pub mod Lists
pub mod Built
pub mod Known
pub mod Kept
