-- The places of `run` statements that were seen.
use Rattle.std.specs.Prelude.{◌≡◌, ℕ, Bool, List}
use Rattle.std.specs.BTreeSet.{BTreeSet, contains}
use Rattle.std.specs.List.{list_any}
use Rattle.bl_tree.specs.declared.place.Place.{Place}
use Rattle.bl_tree.specs.Rules.{same_place}
use Rattle.bl_emit.specs.declared.runs.RunAt.{RunAt as Kept}
use Rattle.bl_machine_transitions.specs.Runs.{key_cmp, key_of}

-- whether a `run` statement stands at the place
abbrev pub run_stands_at : Place → Kept → Bool
run_stands_at place run = same_place run.place place

-- whether the set has the place
abbrev pub has_run_place : BTreeSet (ℕ × ℕ) → Place → Bool
has_run_place seen place = contains key_cmp seen (key_of place)

-- the set has just the places of the `run` statements
abbrev pub SeesRuns : BTreeSet (ℕ × ℕ) → List Kept → Type 0
SeesRuns seen runs = (place : Place) → has_run_place seen place ≡ list_any (run_stands_at place) runs
