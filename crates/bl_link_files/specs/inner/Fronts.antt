-- Files that were read in turn, each as far as it is asked for.
use Rattle.std.specs.Prelude.{◌≡◌, ℕ, List, [], ◌∷◌, ◌++◌, take, Option, Some, None, ⊤}
use Rattle.bl_io.specs.Count.{Rose}
use Rattle.bl_io.specs.declared.fault.IoFault.{IoFault}
use Rattle.bl_io.specs.declared.fault.IoFault.TheVariants as io
use Rattle.bl_module_files.specs.Turns.{Left, WereRead, file_limit}

-- these are the fronts of the texts, in order, up to the limit
abbrev pub AreFronts : List (List ℕ) → List (List ℕ) → Type 0
AreFronts [] [] = ⊤
AreFronts [] (got ∷ gots) = ⊥
AreFronts (text ∷ texts) [] = ⊥
AreFronts (text ∷ texts) (got ∷ gots) = (got ≡ take file_limit text) × AreFronts texts gots

-- the files of these names were read in turn, and these are the fronts of their texts
pub record FrontsRead (left : Left) (names gots : List (List ℕ)) (after : Left) : Type 0 where
  pub texts : List (List ℕ)
  pub read : WereRead left names texts after
  pub fronts : AreFronts texts gots

-- the files before one of them were read in turn, with these fronts, and its count of faults rose
pub record StopsUnread (left : Left) (before after : List ℕ → ℕ) (names gots : List (List ℕ)) : Type 0 where
  pub earlier : List (List ℕ)
  pub name : List ℕ
  pub later : List (List ℕ)
  pub names_are : names ≡ earlier ++ name ∷ later
  pub now : Left
  pub read : FrontsRead left earlier gots now
  pub rose : Rose (before name) (after name)

-- these were read of the files: all fronts, or those before the first read that failed, by the counts of faults before and after
abbrev pub AreFirstTexts : Left → Left → (List ℕ → ℕ) → (List ℕ → ℕ) → List (List ℕ) → List (List ℕ) → Option IoFault → Type 0
AreFirstTexts left rest before after names gots None = FrontsRead left names gots rest
AreFirstTexts left rest before after names gots (Some io.Failed) = StopsUnread left before after names gots
AreFirstTexts left rest before after names gots (Some io.NoMemory) = ⊤
