-- Depths of parts that have a spelling.
use Rattle.std.specs.Prelude.{◌≡◌, ℕ, Bool, true, Option, Some, None}

-- a part has a spelling and this depth of brackets, where a number is told of it
abbrev pub Spelled : Bool → ℕ → Option ℕ → Type 0
Spelled spells depth None = Unit {0}
Spelled spells depth (Some told) = (spells ≡ true) × (depth ≡ told)
