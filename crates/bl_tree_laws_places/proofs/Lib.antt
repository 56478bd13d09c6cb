pub mod Back
pub mod Effects
pub mod Exprs
pub mod Lists
pub mod Stmts
