-- Values of variables of which some alone are looked at.
use Rattle.std.specs.Prelude.{◌≡◌, ℕ, ◌++◌, List, [], ◌∷◌, map, slice_get, slice_set}
use Rattle.bl_tree.specs.declared.tree.StmtKind.TheOpen.{StmtKind-F}
use Rattle.bl_tree.specs.declared.value.Value.{Value}
use Rattle.bl_tree.specs.declared.tree.Part.{Part, fold-Part}
use Rattle.bl_tree.specs.Apart.{Roots, argument_roots, expr_layer_roots, kind_roots, optional_roots, part_roots, path_layer_roots, roots_in, roots_in_path}
use Rattle.bl_tree.specs.declared.static_path.Static.{Static}
use Rattle.bl_eval.specs.Meaning.{View}

-- two lists of values are equal at each of these variables
abbrev pub Agree : List ℕ → List Value → List Value → Type 0
Agree [] xs ys = Unit {0}
Agree (k ∷ rest) xs ys = (slice_get xs k ≡ slice_get ys k) × Agree rest xs ys

-- two views are equal at each of these variables, now and before
abbrev pub Same : List ℕ → View → View → Type 0
Same roots a b = Agree roots a.now b.now × Agree roots a.before b.before

-- values that are equal at the variables are equal at the roots of the paths
abbrev pub Covers : List ℕ → List Static → Type 0
Covers roots paths = (xs ys : List Value) → Agree roots xs ys → Agree (map (λ path. path.root) paths) xs ys

-- the variables that a part of a path names
abbrev pub roots_in_part : Part → Roots
roots_in_part = fold-Part Roots Roots Roots Roots kind_roots part_roots expr_layer_roots path_layer_roots

-- the variables that a declaration, an assignment or a call names
abbrev pub roots_of_act : {A B C D : Type 0} → StmtKind-F A B C D → List ℕ
roots_of_act (StmtKind-F.Declare k initial) = k ∷ optional_roots initial
roots_of_act (StmtKind-F.Assign path e) = roots_in_path path ++ roots_in e
roots_of_act (StmtKind-F.Call f inputs outputs) = argument_roots inputs outputs
roots_of_act _ = []

-- the values with those of the listed variables replaced by given ones
abbrev pub filled : (ℕ → Value) → List ℕ → List Value → List Value
filled value [] made = made
filled value (k ∷ rest) made = filled value rest (slice_set made k (value k))
