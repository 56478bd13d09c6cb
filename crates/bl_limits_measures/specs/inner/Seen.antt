-- The places of `run` statements that were seen.
use Rattle.std.specs.Prelude.{◌≡◌, ℕ, Bool, List}
use Rattle.std.specs.declared.cmp.Ordering.{Ordering}
use Rattle.std.specs.BTreeSet.{BTreeSet, contains}
use Rattle.std.specs.List.{list_any}
use Rattle.std.specs.Ordering.{nat_cmp, ordering_then}
use Rattle.bl_tree.specs.declared.place.Place.{Place}
use Rattle.bl_tree.specs.Rules.{same_place}
use Rattle.bl_limits_measures.specs.declared.runs.PlacedRun.{PlacedRun}

-- whether a `run` statement stands at the place
abbrev pub starts_at : Place → PlacedRun → Bool
starts_at place run = same_place run.place place

-- the key of a place: its start, then its end
abbrev pub place_key : Place → ℕ × ℕ
place_key place = (place.start, place.end)

-- the order of keys: by start, then by end
abbrev pub key_cmp : ℕ × ℕ → ℕ × ℕ → Ordering
key_cmp x y = ordering_then (nat_cmp x.0 y.0) (nat_cmp x.1 y.1)

-- whether the set has the place
abbrev pub has_place : BTreeSet (ℕ × ℕ) → Place → Bool
has_place seen place = contains key_cmp seen (place_key place)

-- the set has just the places of the `run` statements
abbrev pub SeesRuns : BTreeSet (ℕ × ℕ) → List PlacedRun → Type 0
SeesRuns seen runs = (place : Place) → has_place seen place ≡ list_any (starts_at place) runs
