-- What is left of named files, where it is told.
use Rattle.std.specs.Prelude.{◌≡◌, ℕ, ◌≤◌, ◌≢◌, List, [], length, take, drop, Option, Some, IfSome}

-- the n bytes at the front of the room are the next ones of what was left; there are none only at the end
pub record IsNext (bytes : List ℕ) (n : ℕ) (room : List ℕ) (after : Option (List ℕ)) : Type 0 where
  pub within : n ≤ length bytes
  pub front : take n room ≡ take n bytes
  pub rest : after ≡ Some (drop n bytes)
  pub at_end : n ≡ 0 → bytes ≡ []

-- where the bytes left are told, the next n of them came into the room
abbrev pub HandsOver : Option (List ℕ) → ℕ → List ℕ → Option (List ℕ) → Type 0
HandsOver before n room after = IfSome before (λ bytes. IsNext bytes n room after)

-- the bytes left stay as they are, where they are told
abbrev pub IsKept : Option (List ℕ) → Option (List ℕ) → Type 0
IsKept before after = IfSome before (λ bytes. after ≡ Some bytes)

-- the bytes left of every other name stay as they are, where they are told
abbrev pub KeepsOthers : List ℕ → (List ℕ → Option (List ℕ)) → (List ℕ → Option (List ℕ)) → Type 0
KeepsOthers name before after = (other : List ℕ) → other ≢ name → IsKept (before other) (after other)

-- what was got is the whole of what was left, or its front of the given length, and the rest is left
pub record IsUpTo (limit : ℕ) (bytes got : List ℕ) (after : Option (List ℕ)) : Type 0 where
  pub front : got ≡ take limit bytes
  pub rest : after ≡ Some (drop limit bytes)

-- where the bytes left are told, so many of them were got as there are, up to the limit
abbrev pub GivesUpTo : ℕ → Option (List ℕ) → List ℕ → Option (List ℕ) → Type 0
GivesUpTo limit before got after = IfSome before (λ bytes. IsUpTo limit bytes got after)

-- the bytes left, where they are told, are a rest of those before, at most the limit shorter
abbrev pub StandsFurther : ℕ → Option (List ℕ) → Option (List ℕ) → Type 0
StandsFurther limit before after = IfSome before (λ bytes. (n : ℕ) × (n ≤ limit) × (after ≡ Some (drop n bytes)))
