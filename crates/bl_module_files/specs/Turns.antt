-- Files that are read in turn, each from what the ones before it left.
use Rattle.std.specs.Prelude.{◌≡◌, ℕ, List, [], ◌∷◌, drop, Option, Some, IfSome}
use Rattle.bl_io.specs.Left.{IsKept, KeepsOthers, StandsFurther}

-- how many bytes of a file are asked for: one more than a source or an interface may have
abbrev pub file_limit : ℕ
file_limit = 1_048_577

-- what is left of each file, where that is told
abbrev pub Left : Type 0
Left = List ℕ → Option (List ℕ)

-- the text is all that is left of a file, where that is told
abbrev pub IsText : Option (List ℕ) → List ℕ → Type 0
IsText left text = IfSome left (λ all. all ≡ text)

-- the file of this name has this text, and was read to its end or to the limit
pub record WasRead (name text : List ℕ) (before after : Left) : Type 0 where
  pub is_text : IsText (before name) text
  pub rest : IfSome (before name) (λ bytes. after name ≡ Some (drop file_limit bytes))
  pub others : KeepsOthers name before after

-- the files of these names were read in turn, and have these texts
pub data WereRead : Left → List (List ℕ) → List (List ℕ) → Left → Type 0 where
  none : {left : Left} → WereRead left [] [] left
  next : {before between after : Left} {name text : List ℕ} {names texts : List (List ℕ)} → WasRead name text before between →
      WereRead between names texts after → WereRead before (name ∷ names) (text ∷ texts) after

-- the files of these names were read in turn and within the limit, and no other file was
abbrev pub StandFurther : List (List ℕ) → Left → Left → Type 0
StandFurther [] before after = (name : List ℕ) → IsKept (before name) (after name)
StandFurther (name ∷ names) before after =
    (between : Left) × StandsFurther file_limit (before name) (between name) × KeepsOthers name before between × StandFurther names between after
