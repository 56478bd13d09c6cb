pub mod LentLemmas
