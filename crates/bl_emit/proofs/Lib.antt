mod MemberLemmas
mod PartLemmas
mod RuleLemmas
mod SeenLemmas
mod ViewLemmas
