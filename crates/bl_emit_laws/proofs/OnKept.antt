pub mod Declared
pub mod Ends
pub mod Found
pub mod Lists
pub mod Types
pub mod Walk
