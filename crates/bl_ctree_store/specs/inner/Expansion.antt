-- Instances below a `run` statement.
use Rattle.std.specs.Prelude.{◌≡◌, ℕ, ◌+◌, ◌<◌, ◌^◌, Bool, List, Option, IfSome}
use Rattle.std.specs.declared.cmp.Ordering.{Ordering}
use Rattle.std.specs.BTreeSet.{BTreeSet, contains}
use Rattle.std.specs.List.{list_any}
use Rattle.std.specs.Ordering.{nat_cmp, ordering_then}
use Rattle.bl_tree.specs.declared.place.Place.{Place}
use Rattle.bl_effects.specs.Entries.{key_of}
use Rattle.bl_tree.specs.Rules.{same_place}
use Rattle.bl_ctree.specs.declared.instance.Origin.{Origin}
use Rattle.bl_ctree.specs.declared.instance.Run.{Run}

-- whether a `run` statement stands at the place
abbrev pub starts_at : Place → Run → Bool
starts_at place run = same_place run.place place

-- the number of the caller can be moved on by n
abbrev pub Shifts : ℕ → Option Origin → Type 0
Shifts n origin = IfSome origin (λ o. n + o.caller < 2 ^ 32)

-- ---- places that were seen

-- the order of places: by start, then by end
abbrev pub place_cmp : ℕ × ℕ → ℕ × ℕ → Ordering
place_cmp x y = ordering_then (nat_cmp x.0 y.0) (nat_cmp x.1 y.1)

-- whether the set has the place
abbrev pub has_place : BTreeSet (ℕ × ℕ) → Place → Bool
has_place seen place = contains place_cmp seen (key_of place)

-- the set has the places of the `run` statements
abbrev pub Sees : BTreeSet (ℕ × ℕ) → List Run → Type 0
Sees seen runs = (place : Place) → has_place seen place ≡ list_any (starts_at place) runs
