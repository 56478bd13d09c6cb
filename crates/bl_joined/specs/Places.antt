-- Which of several joined texts a place is in.
use Rattle.std.specs.Prelude.{◌≡◌, ℕ, ◌+◌, ◌-◌, ◌<◌, ◌≤◌, List, [], ◌∷◌, length, slice_get, Some}
use Rattle.bl_tree.specs.declared.place.Place.{Place}

-- where texts begin that are joined, one after another, behind so many bytes
abbrev pub starts_behind : ℕ → List (List ℕ) → List ℕ
starts_behind offset [] = []
starts_behind offset (text ∷ texts) = offset ∷ starts_behind (offset + length text + 1) texts

-- the text at position `file` is the last that begins at or before a place of the joined text, and `own` is the place counted from there
pub record InFile (texts : List (List ℕ)) (place : Place) (file : ℕ) (own : Place) : Type 0 where
  pub start : ℕ
  pub stands : slice_get (starts_behind 0 texts) file ≡ Some start
  pub begins : start ≤ place.start
  pub last : (later next : ℕ) → file < later → slice_get (starts_behind 0 texts) later ≡ Some next → place.start < next
  pub counted : own ≡ record { start = place.start - start; end = place.end - start }
