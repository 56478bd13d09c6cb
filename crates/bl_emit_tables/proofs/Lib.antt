mod GrowLemmas
mod SetLemmas
mod WordLemmas
