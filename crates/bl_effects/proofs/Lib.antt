pub mod EntryLemmas
pub mod GatherLemmas
pub mod InstantLemmas
pub mod MentionLemmas
pub mod ProgramLemmas
pub mod SetLemmas
pub mod UnionLemmas
