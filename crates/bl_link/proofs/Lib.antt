pub mod Adding
pub mod Answers
pub mod Fitting
pub mod Joining
pub mod Linking
pub mod Lists
pub mod Trees
pub mod Turns
