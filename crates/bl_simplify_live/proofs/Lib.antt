pub mod Among
pub mod Listed
pub mod Lives
pub mod Names
