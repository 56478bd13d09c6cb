pub mod Agreeing
pub mod Failing
pub mod MarksMoved
pub mod RawExprs
pub mod RawStmts
