-- How many records a line was found to have.
use Rattle.std.specs.Prelude.{ℕ, ◌≡◌, List, [], ◌∷◌, Bool, false, Option, Some, None}
use Rattle.std.specs.Str.{bytes_eq}
use Rattle.bl_rows.specs.Fields.{is_this_number, number_of}
use Rattle.csv.specs.declared.error.ErrorKind.{ErrorKind}
use Rattle.csv.specs.declared.error.ErrorKind.TheVariants as kind
use Rattle.bl_rows.specs.declared.found.Found.{Found}
use Rattle.bl_rows.specs.declared.found.Found.TheVariants.{Nothing, One, Several}

-- the answer tells the number of records, and a one record's fields
abbrev pub Finds : List (List (List ℕ)) → List (List ℕ) → Found → Type 0
Finds records fields Nothing = records ≡ []
Finds records fields One = records ≡ fields ∷ []
Finds records fields Several = (a : List (List ℕ)) × (b : List (List ℕ)) × (more : List (List (List ℕ))) × (records ≡ a ∷ b ∷ more)

-- what a reader over memory can fail for
abbrev pub IsMemory : ErrorKind → Type 0
IsMemory (kind.Io e) = Unit {0}
IsMemory kind.OutOfMemory = Unit {0}
IsMemory (kind.UnequalLengths pos expected len) = ⊥
IsMemory (kind.Utf8 pos err) = ⊥
IsMemory (kind.Serialize text) = ⊥
IsMemory (kind.Deserialize pos err) = ⊥

-- whether there is a field and it is the word
abbrev pub is_word : List ℕ → Option (List ℕ) → Bool
is_word word None = false
is_word word (Some field) = bytes_eq field word

-- whether there is a first field and it is the number of the tick
abbrev pub starts_with_tick : ℕ → List (List ℕ) → Bool
starts_with_tick n [] = false
starts_with_tick n (field ∷ fields) = is_this_number n (number_of field)
