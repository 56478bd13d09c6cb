pub mod Basics
pub mod ExprInduction
pub mod FirstLemmas
pub mod KeywordLemmas
pub mod NumberLemmas
pub mod ReduceLemmas
pub mod StmtInduction
