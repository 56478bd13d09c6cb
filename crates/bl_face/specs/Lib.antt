pub mod Keeps
pub mod Lexemes
pub mod Reading
pub mod Spells
pub mod Text
pub mod inner
