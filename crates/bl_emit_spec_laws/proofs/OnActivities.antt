pub mod Appending
pub mod Calling
pub mod Following
pub mod Forgetting
pub mod Lists
pub mod Nested
pub mod Passing
pub mod Roles
