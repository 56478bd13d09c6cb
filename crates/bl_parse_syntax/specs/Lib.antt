pub mod Grammar
pub mod Tables
pub mod Follow
pub mod Stack
pub mod Depth
pub mod Rules
pub mod Expects
pub mod inner
