pub mod Entries
pub mod Rules
pub mod Surface
pub mod Table
pub mod inner
