-- Bytes cut at line feeds.
use Rattle.std.specs.Prelude.{ℕ, List, [], ◌∷◌, ◌++◌, ◌==◌, Bool, false, ◌||◌, if◌then◌else◌}

-- lines of bytes: those that a line feed ends, without it, and the bytes after the last line feed
pub record Cut : Type 0 where
  pub whole : List (List ℕ)
  pub rest : List ℕ

-- a cut of the bytes after b, with b before them
abbrev pub led_by_byte : ℕ → List (List ℕ) → List ℕ → Cut
led_by_byte b [] rest = record { whole = []; rest = b ∷ rest }
led_by_byte b (line ∷ lines) rest = record { whole = (b ∷ line) ∷ lines; rest = rest }

-- the lines of bytes, cut after each line feed, 10
abbrev pub cut : List ℕ → Cut
cut [] = record { whole = []; rest = [] }
cut (b ∷ bytes) =
    if b == 10 then record { whole = [] ∷ (cut bytes).whole; rest = (cut bytes).rest }
    else led_by_byte b (cut bytes).whole (cut bytes).rest

-- the lines that a line feed ends
abbrev pub whole_lines : List ℕ → List (List ℕ)
whole_lines bytes = (cut bytes).whole

-- the bytes after the last line feed
abbrev pub unfinished : List ℕ → List ℕ
unfinished bytes = (cut bytes).rest

-- a last line, where it has any bytes
abbrev pub last_line : List ℕ → List (List ℕ)
last_line [] = []
last_line (b ∷ bytes) = (b ∷ bytes) ∷ []

-- all the lines of bytes: the whole ones, and the bytes after the last line feed where there are any
abbrev pub lines_of : List ℕ → List (List ℕ)
lines_of bytes = whole_lines bytes ++ last_line (unfinished bytes)

-- whether there is a line feed among the bytes
abbrev pub has_feed : List ℕ → Bool
has_feed [] = false
has_feed (b ∷ bytes) = (b == 10) || has_feed bytes
