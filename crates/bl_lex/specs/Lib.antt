pub mod Spelling
pub mod Pieces
pub mod Tokens
pub mod Rules
pub mod inner
