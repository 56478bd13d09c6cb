pub mod AliasLemmas
pub mod CauseLemmas
pub mod ConflictLemmas
pub mod FirstLemmas
pub mod InLemmas
pub mod LoopLemmas
pub mod PauseLemmas
pub mod RootLemmas
