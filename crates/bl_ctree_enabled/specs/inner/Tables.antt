-- Which branches have to do with which variables.
use Rattle.std.specs.Prelude.{◌≡◌, ℕ, Bool, true, List, [], ◌∷◌, ◌++◌, Some, slice_get}
use Rattle.std.specs.BTreeSet.{contains, keys_between}
use Rattle.std.specs.declared.cmp.Ordering.{Ordering}
use Rattle.std.specs.declared.ops.Bound.TheVariants.{Included, Excluded}
use Rattle.std.specs.Ordering.{nat_cmp, ordering_then}
use Rattle.bl_ctree.specs.Store.{Location}
use Rattle.bl_ctree_enabled.specs.declared.table.Table.{Table}
use Rattle.bl_ctree_enabled.specs.Spots.{Spot}

-- an instance, one of its variables, and a branch that has to do with that
abbrev pub Key : Type 0
Key = ℕ × ℕ × ℕ

-- the order of keys: by instance, then by variable, then by branch
abbrev pub key_cmp : Key → Key → Ordering
key_cmp x y = ordering_then (ordering_then (nat_cmp x.0 y.0) (nat_cmp x.1 y.1)) (nat_cmp x.2 y.2)

-- whether the branch with number k is noted at the variable in which the home lies
abbrev pub is_noted : Table → ℕ → Location → Bool
is_noted table k at = contains key_cmp table.by_variable (at.instance, at.path.root, k)

-- what is noted of the first of so many branches at the variable in which the home lies
abbrev pub near : Table → Location → ℕ → List Key
near table at many =
    keys_between key_cmp (Included (at.instance, at.path.root, 0)) (Excluded (at.instance, at.path.root, many)) table.by_variable

-- the branch with number k is noted at the variable of each home in the list
abbrev pub Noted : Table → ℕ → List Location → Type 0
Noted table k homes = (m : ℕ) (at : Location) → slice_get homes m ≡ Some at → is_noted table k at ≡ true

-- each branch is noted at the variables of all its homes
abbrev pub AllNoted : Table → List (List Location) → Type 0
AllNoted table all = (k : ℕ) (homes : List Location) → slice_get all k ≡ Some homes → Noted table k homes

-- what was noted in the table still is
abbrev pub Grows : Table → Table → Type 0
Grows old new = (k : ℕ) (at : Location) → is_noted old k at ≡ true → is_noted new k at ≡ true

-- what the points read, one point after another
abbrev pub reads_in : List Spot → List Location
reads_in [] = []
reads_in (spot ∷ spots) = spot.reads ++ reads_in spots
