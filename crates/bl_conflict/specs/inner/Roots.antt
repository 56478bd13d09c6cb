-- What branches write, by root and first field.
use Rattle.std.specs.declared.cmp.Ordering.{Ordering}
use Rattle.std.specs.BTreeSet.{contains}
use Rattle.std.specs.Ordering.{nat_cmp, ordering_then}
use Rattle.std.specs.Prelude.{◌≡◌, ℕ, true, List, [], ◌∷◌, ⊤}
use Rattle.bl_tree.specs.declared.static_path.Static.{Static}
use Rattle.bl_effects.specs.declared.marked.Marked.{Marked}
use Rattle.bl_conflict.specs.declared.touched.Touched.{Touched}

-- the order of roots with fields: by root, then by field
abbrev pub part_cmp : ℕ × ℕ → ℕ × ℕ → Ordering
part_cmp x y = ordering_then (nat_cmp x.0 y.0) (nat_cmp x.1 y.1)

-- the root was written as a whole, where there are no fields, or else in the first of them
abbrev pub HasFront : Touched → ℕ → List ℕ → Type 0
HasFront touched root [] = contains nat_cmp touched.wholes root ≡ true
HasFront touched root (field ∷ fields) = contains part_cmp touched.parts (root, field) ≡ true

-- the root of the path is known, and the path is known as a whole or by its first field
abbrev pub HasPath : Touched → Static → Type 0
HasPath touched path = (contains nat_cmp touched.roots path.root ≡ true) × HasFront touched path.root path.fields

-- the paths of all these writes are known
abbrev pub Knows : Touched → List Marked → Type 0
Knows touched [] = ⊤
Knows touched (write ∷ rest) = HasPath touched write.path × Knows touched rest

-- what was known of roots and paths still is
pub record Grows (old new : Touched) : Type 0 where
  pub roots : (q : ℕ) → contains nat_cmp old.roots q ≡ true → contains nat_cmp new.roots q ≡ true
  pub wholes : (q : ℕ) → contains nat_cmp old.wholes q ≡ true → contains nat_cmp new.wholes q ≡ true
  pub parts : (q : ℕ × ℕ) → contains part_cmp old.parts q ≡ true → contains part_cmp new.parts q ≡ true
