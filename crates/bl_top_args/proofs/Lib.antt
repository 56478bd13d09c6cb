pub mod FewWords
pub mod Matches
pub mod Program
pub mod Reading
pub mod Seeds
pub mod Values
pub mod Walks
