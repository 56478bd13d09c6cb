pub mod Changes
pub mod Homes
pub mod Remembering
pub mod Views
