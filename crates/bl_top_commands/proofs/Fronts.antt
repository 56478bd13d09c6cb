-- A source is read one byte past the longest that is accepted: what is judged of that front holds of the whole.
use Rattle.std.proofs.Common.{◌≡◌, ℕ, ◌<◌, ◌≤◌, List, [], take, length, refl, sym, subst, inl, inr, arith}
use Rattle.std.specs.Prelude.{◌⊎◌, Option, Some, None}
use Rattle.bl_top_commands.specs.Calls.{Count, HasRisen}
use Rattle.bl_top_commands.specs.Reads.{source_limit}
use Rattle.bl_top_commands.specs.declared.outcome.Outcome.{Outcome}
use Rattle.bl_top_commands.specs.declared.status.Status.{Status}
use Rattle.bl_top_commands.specs.declared.status.Status.TheVariants as status
use Rattle.bl_top_commands.specs.Refusals.{IsNotAccepted, RefusedText, refusal_line, refused as stopped, short as no_memory, unread}
use Rattle.bl_top_commands.specs.inner.Outcomes.{IsRefusedBy, chosen_line, line_in}
use Rattle.bl_top_commands.specs.Sources.{IsProgramOfSource, IsRawTreeOf}
use Rattle.bl_io.specs.Left.{GivesUpTo}
use Rattle.bl_rules.specs.Accepted.{HasProgram}
use Rattle.bl_rules.specs.Rules.{Fails, FirstFailing, Passes, in_bytes, in_tokens, in_tree}
use Rattle.bl_tree.specs.declared.program.Program.{Program}
use Rattle.bl_tree.specs.declared.place.Place.{Place}
use Rattle.bl_tree.specs.declared.rule.Refusal.{Refusal}
use Rattle.bl_tree.specs.declared.rule.Refusal.TheVariants as refusal
use Rattle.bl_tree.specs.declared.rule.Rule.{Rule}
use Rattle.bl_tree.specs.declared.rule.Rule.TheVariants as rule
use Rattle.bl_tree.specs.Rules.{IsCause, number_of}
use Rattle.bl_top_commands.proofs.Cuts.{whole_or_long}
use Rattle.bl_module_files.proofs.Sizes.{least_number}

-- the front is the whole, or both have more bytes than may be
front_or_long : (whole got : List ℕ) → got ≡ take source_limit whole → (whole ≡ got) ⊎ ((1_048_576 < length got) × (1_048_576 < length whole))
front_or_long whole got front = elim (whole_or_long source_limit whole got front) [
  | inl same ↦ inl same
  | inr long ↦ inr (omega (arith, long.0), omega (arith, long.1))
]

-- ---- what is accepted

-- the place of the first byte beyond the longest text that is accepted
abbrev first_beyond : Place
first_beyond = record { start = 1_048_576; end = 1_048_577 }

whole_of_passing : (whole got : List ℕ) → got ≡ take source_limit whole → Passes got → whole ≡ got
whole_of_passing whole got front passes = elim (front_or_long whole got front) [
  | inl same ↦ same
  | inr long ↦ absurd (passes rule.Size first_beyond [] (in_bytes (record { too_long = long.0; at = refl }, refl)))
]

-- the program of a front is that of the whole
pub is_program : (before : Option (List ℕ)) (got : List ℕ) (after : Option (List ℕ)) (program : Program) →
    GivesUpTo source_limit before got after → HasProgram got program → IsProgramOfSource before program
is_program None got after program read made = record { source = got; of_source = tt; has = made }
is_program (Some whole) got after program read made =
    record { source = got; of_source = whole_of_passing whole got read.front made.has.passes; has = made }

pub tree_of_program : (left : Option (List ℕ)) (program : Program) (is : IsProgramOfSource left program) → IsRawTreeOf left is.has.raw
tree_of_program left program is = record { source = is.source; of_source = is.of_source; has = is.has.has }

-- ---- what is refused

-- a text that is too long fails rule Size there, and at no other place
size_fails : (text : List ℕ) → 1_048_576 < length text → Fails text rule.Size first_beyond []
size_fails text long = in_bytes (record { too_long = long; at = refl }, refl)

size_place : (text : List ℕ) → 1_048_576 < length text → (place : Place) (also : List Place) → Fails text rule.Size place also
    → (place ≡ first_beyond) × (also ≡ [])
size_place text long place also (in_bytes f) = (f.0.at, f.1)
size_place text long place also (in_tokens ts passes lexes f) = absurd (passes rule.Size first_beyond [] (record { too_long = long; at = refl }, refl))
size_place text long place also (in_tree raw passes parses f) = absurd (passes rule.Size first_beyond [] (record { too_long = long; at = refl }, refl))

-- Size is the first rule that fails for it
size_first : (text : List ℕ) → 1_048_576 < length text → FirstFailing text rule.Size first_beyond []
size_first text long = record {
  fails = size_fails text long;
  least_rule = λ other elsewhere further f. least_number other;
  least_places = λ elsewhere further f. inr (sym (size_place text long elsewhere further f).0, tt);
}

-- what fails first for a front that was cut is Size, and so it is for the whole
module _ (whole got : List ℕ) (got_long : 1_048_576 < length got) (whole_long : 1_048_576 < length whole) where
  not_first : (told : Rule) (place : Place) (also : List Place) → 1 < number_of told → ¬ FirstFailing got told place also
  not_first told place also more first =
      let least = first.least_rule rule.Size first_beyond [] (size_fails got got_long) in omega (arith, more, least)

  first_of_long : (rule : Rule) (place : Place) (also : List Place) → FirstFailing got rule place also → FirstFailing whole rule place also
  first_of_long rule.Size place also first =
      let is = size_place got got_long place also first.fails in
      subst (λ p. FirstFailing whole rule.Size p also) (sym is.0)
      (subst (λ l. FirstFailing whole rule.Size first_beyond l) (sym is.1) (size_first whole whole_long))
  first_of_long other place also first = absurd (not_first other place also (omega arith) first)

first_of_whole : (whole got : List ℕ) → got ≡ take source_limit whole → (rule : Rule) (place : Place) (also : List Place)
    → FirstFailing got rule place also → FirstFailing whole rule place also
first_of_whole whole got front rule place also first = elim (front_or_long whole got front) [
  | inl same ↦ subst (λ text. FirstFailing text rule place also) (sym same) first
  | inr long ↦ first_of_long whole got long.0 long.1 rule place also first
]

pub refused_text : (before : Option (List ℕ)) (got : List ℕ) (after : Option (List ℕ)) (rule : Rule) (place : Place)
    (also : List Place) (line : List ℕ) →
    GivesUpTo source_limit before got after → FirstFailing got rule place also → line ≡ refusal_line rule place also → RefusedText before line
refused_text None got after rule place also line read first told =
    record { text = got; of_source = tt; rule = rule; place = place; also = also; first = first; told = told }
refused_text (Some whole) got after rule place also line read first told = record {
  text = whole;
  of_source = refl;
  rule = rule;
  place = place;
  also = also;
  first = first_of_whole whole got read.front rule place also first;
  told = told;
}

-- ---- ends of a job at its source

pub stops_short : (before : Option (List ℕ)) (file : Count) (ended : Status) (own : List ℕ) → ended ≡ status.NoMemory →
    IsNotAccepted before file ended (chosen_line ended own)
stops_short before file ended own none = rw none no_memory

pub stops_refused : (before : Option (List ℕ)) (got : List ℕ) (after : Option (List ℕ)) (file : Count) (told : Refusal) (outcome : Outcome) →
    GivesUpTo source_limit before got after → IsCause (Fails got) told → IsRefusedBy told outcome →
    IsNotAccepted before file outcome.status (line_in outcome)
stops_refused before got after file (refusal.Rule rule place also) outcome read is by = elim by [
  | inl told ↦ rw told.0 (stopped (refused_text before got after rule place also outcome.line.items read is told.1))
  | inr none ↦ stops_short before file outcome.status outcome.line.items none
]
stops_refused before got after file refusal.NoMemory outcome read is none = stops_short before file outcome.status outcome.line.items none

pub stops_unread : (before : Option (List ℕ)) (file : Count) (ended : Status) (own : List ℕ) → ended ≡ status.ReadFault →
    HasRisen file → IsNotAccepted before file ended (chosen_line ended own)
stops_unread before file ended own e risen = rw e (unread risen)
