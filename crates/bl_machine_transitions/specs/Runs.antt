-- The numbers of `run`s by their places. Those of one place have one number: that of the node at which the first of them begins.
use Rattle.std.specs.Prelude.{ℕ, Bool, false, List, [], ◌∷◌, if◌then◌else◌, unwrap_or}
use Rattle.std.specs.BTreeMap.{is_at}
use Rattle.std.specs.Map.{lookup}
use Rattle.std.specs.declared.cmp.Ordering.{Ordering}
use Rattle.std.specs.Ordering.{nat_cmp, ordering_then}
use Rattle.bl_tree.specs.declared.place.Place.{Place}
use Rattle.bl_tree.specs.Rules.{same_place}
use Rattle.bl_machine_transitions.specs.Told.{Acts, Enters, Nothing, NumberedTransition, Resumes, Task, Tests}

-- whether a `run` at the place begins where the task is done
abbrev pub begins_run : Place → Task → Bool
begins_run at (Nothing kind) = false
begins_run at (Acts s) = false
begins_run at (Tests e) = false
begins_run at (Enters place a arguments) = same_place place at
begins_run at (Resumes place a arguments) = false

-- the number of the first node at which a `run` at the place begins, in source order; 0 where there is none
abbrev pub run_number : List NumberedTransition → Place → ℕ
run_number [] at = 0
run_number (rule ∷ rest) at = if begins_run at rule.task then rule.number else run_number rest at

-- ---- a table of them

-- the key of a place: its start, then its end
abbrev pub key_of : Place → ℕ × ℕ
key_of place = (place.start, place.end)

-- the order of keys: by start, then by end
abbrev pub key_cmp : ℕ × ℕ → ℕ × ℕ → Ordering
key_cmp x y = ordering_then (nat_cmp x.0 y.0) (nat_cmp x.1 y.1)

-- the number that a table has for the place; 0 where it has none
abbrev pub kept_number : List ((ℕ × ℕ) × ℕ) → Place → ℕ
kept_number entries at = unwrap_or (lookup (is_at (key_cmp (key_of at))) entries) 0
