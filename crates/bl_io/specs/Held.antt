-- What a sink holds, where it is told.
use Rattle.std.specs.Prelude.{◌≡◌, ℕ, ◌<◌, List, ◌++◌, length, take, Option, Some, IfSome}

-- where the bytes held are told, they grew by the piece
abbrev pub Appends : Option (List ℕ) → List ℕ → Option (List ℕ) → Type 0
Appends before piece after = IfSome before (λ bytes. after ≡ Some (bytes ++ piece))

-- where the bytes held are told, they grew by a front of the piece that is not all of it
abbrev pub AppendsPart : Option (List ℕ) → List ℕ → Option (List ℕ) → Type 0
AppendsPart before piece after = IfSome before (λ bytes. (n : ℕ) × (n < length piece) × (after ≡ Some (bytes ++ take n piece)))
