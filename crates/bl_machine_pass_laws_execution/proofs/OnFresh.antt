pub mod Asking
pub mod Bounding
pub mod Doing
pub mod Lists
pub mod Naming
pub mod Seeing
