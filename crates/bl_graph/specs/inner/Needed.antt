-- Which accesses reads need, and these among others.
use Rattle.std.specs.Prelude.{◌≡◌, ℕ, ◌+◌, ◌<◌, ◌≤◌, Bool, true, false, ◌||◌, nat_lt, List, [], ◌∷◌, ◌++◌, Option, None, Some, if◌then◌else◌, slice_get, slice_index, slice_index_or}
use Rattle.std.specs.Prelude.{slice_set, unwrap_or}
use Rattle.bl_graph.specs.declared.accesses.Access.{Access}
use Rattle.bl_graph.specs.declared.accesses.Access.TheVariants.{Read, Write}

-- whether an access is a read
abbrev pub reads : Access → Bool
reads (Write node before) = false
reads (Read node from) = true

-- the position of the earlier write that an access names
abbrev pub named_by : Access → Option ℕ
named_by (Write node before) = before
named_by (Read node from) = Some from

-- the position is marked
abbrev pub is_marked : List Bool → ℕ → Bool
is_marked needed k = slice_index_or needed k false

-- from the position on all reads are marked, and with an access the earlier one that it names
pub record AreNeeded (accesses : List Access) (from : ℕ) (needed : List Bool) : Type 0 where
  pub reads_are : (k : ℕ) (access : Access) → from ≤ k → slice_get accesses k ≡ Some access → reads access ≡ true → is_marked needed k ≡ true
  pub named_are : (k : ℕ) (access : Access) (earlier : ℕ) → from ≤ k → slice_get accesses k ≡ Some access → is_marked needed k ≡ true →
      named_by access ≡ Some earlier → earlier < k → is_marked needed earlier ≡ true

-- the marks with one more, where a position is before another
abbrev pub mark_earlier : Option ℕ → ℕ → List Bool → List Bool
mark_earlier None position needed = needed
mark_earlier (Some earlier) position needed = if nat_lt earlier position then slice_set needed earlier true else needed

-- the marks after an access was looked at
abbrev pub after_need : Access → ℕ → List Bool → List Bool
after_need access position needed =
    if reads access || is_marked needed position then mark_earlier (named_by access) position (slice_set needed position true) else needed

-- the position of an earlier access among others
abbrev pub new_position : List ℕ → ℕ → Option ℕ → Option ℕ
new_position positions at None = None
new_position positions at (Some k) = if nat_lt k at then Some (slice_index positions k) else None

-- an access among others: its node is counted from the first node on, and earlier accesses have the positions
abbrev pub moved : ℕ → List ℕ → ℕ → ℕ → Access → Access
moved first positions at own (Write node before) = Write (first + node) (new_position positions at before)
moved first positions at own (Read node from) = Read (first + node) (unwrap_or (new_position positions at (Some from)) own)

-- the accesses with one more, where it is needed
abbrev pub with_needed : Bool → ℕ → List ℕ → ℕ → ℕ → Access → List Access → List Access
with_needed needed first positions at own access into = if needed then into ++ moved first positions at own access ∷ [] else into
