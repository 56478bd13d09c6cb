pub mod ExprMade
pub mod Only
pub mod ExprRoots
pub mod Statements
pub mod Program
