pub mod Leaves
pub mod Statements
pub mod Units
pub mod Program
