pub mod Cause
pub mod Kinds
pub mod Marks
pub mod Rules
pub mod Scopes
pub mod inner
