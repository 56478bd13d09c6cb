-- Instances by the `run` statements that begin them.
use Rattle.std.specs.Prelude.{◌≡◌, ℕ, List, Option, position}
use Rattle.std.specs.BTreeMap.{is_at}
use Rattle.std.specs.Map.{lookup}
use Rattle.std.specs.declared.cmp.Ordering.{Ordering}
use Rattle.std.specs.Ordering.{nat_cmp, ordering_then}
use Rattle.bl_tree.specs.declared.place.Place.{Place}
use Rattle.bl_ctree.specs.declared.instance.Instance.{Instance}
use Rattle.bl_ctree.specs.Instances.{begins_at}

-- a caller and a place as a key
abbrev pub key_at : ℕ → Place → ℕ × (ℕ × ℕ)
key_at caller place = (caller, (place.start, place.end))

-- the order of callers and places: by caller, then by start and end of the place
abbrev pub key_cmp : ℕ × (ℕ × ℕ) → ℕ × (ℕ × ℕ) → Ordering
key_cmp x y = ordering_then (nat_cmp x.0 y.0) (ordering_then (nat_cmp x.1.0 y.1.0) (nat_cmp x.1.1 y.1.1))

-- the instance that is kept for the `run` statement at the place in its caller's instance
abbrev pub kept_callee : List ((ℕ × (ℕ × ℕ)) × ℕ) → ℕ → Place → Option ℕ
kept_callee entries caller place = lookup (is_at (key_cmp (key_at caller place))) entries

-- the table has for each `run` statement the first instance that it begins
abbrev pub IndexesCallees : List ((ℕ × (ℕ × ℕ)) × ℕ) → List Instance → Type 0
IndexesCallees entries instances = (caller : ℕ) (place : Place) →
    kept_callee entries caller place ≡ position (λ instance. begins_at caller place instance.origin) instances
