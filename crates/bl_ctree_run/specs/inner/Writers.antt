-- What the branches of a `cobegin` may still write, by instance and variable.
use Rattle.std.specs.Prelude.{ℕ, suc, Bool, not, ◌&&◌, nat_eq, List, [], ◌∷◌, ◌++◌, map, filter, unwrap_or}
use Rattle.std.specs.BTreeMap.{is_at}
use Rattle.std.specs.List.{list_any}
use Rattle.std.specs.Map.{lookup}
use Rattle.std.specs.declared.cmp.Ordering.{Ordering}
use Rattle.std.specs.Ordering.{nat_cmp, ordering_then}
use Rattle.bl_ctree.specs.Store.{Location, overlap}
use Rattle.bl_ctree_store.specs.Seen.{location_of}
use Rattle.bl_ctree_run.specs.declared.writers.Write.{Write as WriteNode}
use Rattle.bl_ctree_enabled.specs.Spots.{Spot}

-- something that the branch with this number may still write
pub record Write : Type 0 where
  pub branch : ℕ
  pub home : Location

-- the pending writes of branch k, from the homes that it may write
abbrev pub writes_by : ℕ → List Location → List Write
writes_by k [] = []
writes_by k (home ∷ homes) = record { branch = k; home = home } ∷ writes_by k homes

-- the pending writes of several branches, the first of which has number k
abbrev pub writes_from : ℕ → List (List Location) → List Write
writes_from k [] = []
writes_from k (homes ∷ rest) = writes_by k homes ++ writes_from (suc k) rest

-- the pending writes of all branches
abbrev pub all_writes : List (List Location) → List Write
all_writes branches = writes_from 0 branches

-- whether both are parts of one variable
abbrev pub same_variable : Location → Location → Bool
same_variable a b = nat_eq a.instance b.instance && nat_eq a.path.root b.path.root

-- the writes to the variable in which the home lies
abbrev pub of_variable : Location → List Write → List Write
of_variable at writes = filter (λ write. same_variable write.home at) writes

-- whether another branch than the one with number k does the write, and that overlaps the home
abbrev pub is_beside : ℕ → Location → Write → Bool
is_beside k at write = not (nat_eq write.branch k) && overlap at write.home

-- ---- as they are kept

-- a write that is kept: its branch and its home
abbrev pub write_of : WriteNode → Write
write_of write = record { branch = write.branch; home = location_of write.home }

-- the variable in which a home lies, by the numbers of its instance and of its own
abbrev pub key_at : Location → ℕ × ℕ
key_at at = (at.instance, at.path.root)

-- the order of keys: by instance, then by variable
abbrev pub key_cmp : ℕ × ℕ → ℕ × ℕ → Ordering
key_cmp x y = ordering_then (nat_cmp x.0 y.0) (nat_cmp x.1 y.1)

-- the writes kept for the variable in which the home lies
abbrev pub writes_kept : List ((ℕ × ℕ) × List WriteNode) → Location → List Write
writes_kept entries at = map write_of (unwrap_or (lookup (is_at (key_cmp (key_at at))) entries) [])

-- whether another branch than the one with number k may still write something that overlaps the home
abbrev pub is_met : List ((ℕ × ℕ) × List WriteNode) → ℕ → Location → Bool
is_met entries k at = list_any (is_beside k at) (writes_kept entries at)

-- whether the point reads nothing that the other branches than the one with number k may still write
abbrev pub is_free : List ((ℕ × ℕ) × List WriteNode) → ℕ → Spot → Bool
is_free entries k spot = not (list_any (is_met entries k) spot.reads)
