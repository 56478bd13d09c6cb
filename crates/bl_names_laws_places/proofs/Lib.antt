pub mod Exprs
pub mod ItemsNamed
pub mod Pieces
pub mod Positions
pub mod Stmts
pub mod Types
