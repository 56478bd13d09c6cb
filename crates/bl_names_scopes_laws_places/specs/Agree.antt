-- Scopes of one text that are open at corresponding places of two, where places are mapped and constants have other positions.
use Rattle.std.specs.Prelude.{◌≡◌, ℕ, ◌+◌, List, [], ◌∷◌, map, ⊤}
use Rattle.bl_tree.specs.declared.place.Place.{Place}
use Rattle.bl_joined.specs.Trees.{placed_name}
use Rattle.bl_names_scopes.specs.declared.kind.Kind.{Kind}
use Rattle.bl_names_scopes.specs.declared.kind.Kind.TheVariants as kind
use Rattle.bl_names_scopes.specs.declared.scopes.Declaration.{Declaration}
use Rattle.bl_names_scopes.specs.Marks.{Mark, Marks, closes, declares, opens, uses}
use Rattle.bl_names_scopes.specs.Scopes.{Declared, Scopes}

-- ---- marks

-- a mark with the place of its name mapped
abbrev pub placed_mark : (Place → Place) → Mark → Mark
placed_mark f opens = opens
placed_mark f closes = closes
placed_mark f (declares name kind) = declares (placed_name f name) kind
placed_mark f (uses name wanted) = uses (placed_name f name) wanted

-- marks with all places mapped
abbrev pub placed_marks : (Place → Place) → Marks → Marks
placed_marks f marks = map (placed_mark f) marks

-- ---- scopes

-- the other position of what is declared: constants have others by the map, all else has the position that it has
abbrev pub other_position : (ℕ → ℕ) → Kind → ℕ → ℕ
other_position renumber kind.Constant k = renumber k
other_position renumber _ k = k

-- two declarations are of one kind, with corresponding positions
pub record SameDeclaration (renumber : ℕ → ℕ) (one other : Declaration) : Type 0 where
  pub kind : other.kind ≡ one.kind
  pub position : other.position ≡ other_position renumber one.kind one.position

-- two scopes have equal names in order, with corresponding declarations
abbrev pub SameScope : (ℕ → ℕ) → Declared → Declared → Type 0
SameScope renumber [] [] = ⊤
SameScope renumber [] (entry ∷ other) = ⊥
SameScope renumber (entry ∷ one) [] = ⊥
SameScope renumber (first ∷ one) (second ∷ other) =
    (second.0 ≡ first.0) × (SameDeclaration renumber first.1 second.1 × SameScope renumber one other)

-- two lists of scopes are equally long, and those at one position correspond
abbrev pub SameAround : (ℕ → ℕ) → List Declared → List Declared → Type 0
SameAround renumber [] [] = ⊤
SameAround renumber [] (scope ∷ other) = ⊥
SameAround renumber (scope ∷ one) [] = ⊥
SameAround renumber (first ∷ one) (second ∷ other) = SameScope renumber first second × SameAround renumber one other

-- the open scopes of two texts correspond, and what is declared next gets corresponding positions
pub record ScopesAgree (renumber : ℕ → ℕ) (one other : Scopes) : Type 0 where
  pub inner : SameScope renumber one.inner other.inner
  pub outer : SameAround renumber one.outer other.outer
  pub structs : other.counts.structs ≡ one.counts.structs
  pub units : other.counts.units ≡ one.counts.units
  pub variables : other.counts.variables ≡ one.counts.variables
  pub constants : (k : ℕ) → renumber (one.counts.constants + k) ≡ other.counts.constants + k
