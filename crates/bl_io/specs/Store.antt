-- Files over memory: what is left of each name.
use Rattle.std.specs.Prelude.{ℕ, min, List, [], length, unwrap_or}
use Rattle.std.specs.Coded.{Coded, coded_list, coded_ℕ}
use Rattle.std.specs.Cmp.Lexicographic.{slice_cmp}
use Rattle.std.specs.FinMap as map
use Rattle.std.specs.Ordering.{nat_cmp}

-- the bytes left of each file, by the bytes of its name
abbrev pub LeftByName : Type 0
LeftByName = map.FinMap (slice_cmp nat_cmp) (List ℕ)

-- a map of files is stored as its list of entries
abbrev pub left_code : Coded LeftByName
left_code = map.code (coded_list coded_ℕ) (coded_list coded_ℕ)

-- the bytes left of a name, none where it is absent
abbrev pub left_at : LeftByName → List ℕ → List ℕ
left_at files name = unwrap_or (map.get files name) []

-- the number of bytes that a call moves: the least of the room, the limit and what is left
abbrev pub handed : ℕ → ℕ → List ℕ → ℕ
handed room most bytes = min room (min most (length bytes))
