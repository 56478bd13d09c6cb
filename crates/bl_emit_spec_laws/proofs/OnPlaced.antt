pub mod Behind
pub mod Going
pub mod Lists
pub mod Placing
