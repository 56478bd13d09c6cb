pub mod CauseLemmas
pub mod ScopeLemmas
pub mod TellLemmas
pub mod WalkLemmas
