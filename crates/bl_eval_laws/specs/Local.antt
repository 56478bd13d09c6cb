-- Expressions look at nothing but what they mention: static paths, and the values before.
use Rattle.std.specs.Prelude.{◌≡◌, ℕ, List, [], ◌∷◌, ◌++◌, Option, Some, None, option_and_then, slice_get, ⊤}
use Rattle.bl_tree.specs.declared.static_path.Static.{Static}
use Rattle.bl_tree.specs.declared.tree.Expr.{Expr}
use Rattle.bl_tree.specs.declared.tree.Path.{Path}
use Rattle.bl_tree.specs.declared.tree.Stmt.{Stmt, out-Stmt}
use Rattle.bl_tree.specs.declared.tree.StmtKind.{out-StmtKind}
use Rattle.bl_tree.specs.declared.value.Value.{Value}
use Rattle.bl_tree.specs.Apart.{naming_of, roots_in, roots_in_path}
use Rattle.bl_tree.specs.Effects.{reads, writes}
use Rattle.bl_tree.specs.Static.{index_mentions, mentions, path_mentions}
use Rattle.bl_eval.specs.Functions.{acted}
use Rattle.bl_eval.specs.Meaning.{Scope, View, path_meaning_of, reading, value_in}
use Rattle.bl_eval.specs.Values.{value_at}

-- the value at a static path of the variables
abbrev pub at_path : List Value → Static → Option Value
at_path now path = option_and_then (value_at path.fields) (slice_get now path.root)

-- two lists of values are equal at each of these static paths
abbrev pub Alike : List Static → List Value → List Value → Type 0
Alike [] xs ys = ⊤
Alike (path ∷ rest) xs ys = (at_path xs path ≡ at_path ys path) × Alike rest xs ys

-- two optional lists of values are both missing, or both present and equal at these static paths
abbrev pub LeftAlike : List Static → Option (List Value) → Option (List Value) → Type 0
LeftAlike paths None None = ⊤
LeftAlike paths (Some xs) (Some ys) = Alike paths xs ys
LeftAlike paths None (Some ys) = ⊥
LeftAlike paths (Some xs) None = ⊥

-- two lists of values are equal at these variables
abbrev pub SameAt : List ℕ → List Value → List Value → Type 0
SameAt [] xs ys = ⊤
SameAt (k ∷ rest) xs ys = (slice_get xs k ≡ slice_get ys k) × SameAt rest xs ys

-- a view by its parts
abbrev pub seen : List Value → List Value → View
seen now before = record { now = now; before = before }

-- the value of an expression depends only on the paths that it mentions and the former values of variables it names
abbrev pub ValuesAreLocal : Type 0
ValuesAreLocal =
    (scope : Scope) (e : Expr) (xs ys before before' : List Value) → Alike (mentions e) xs ys → SameAt (roots_in e) before before' →
    value_in scope e (seen xs before) ≡ value_in scope e (seen ys before')

-- the positions of a path depend only on what its indices mention, and the value there on what the path mentions
pub record PathsAreLocal : Type 0 where
  pub leads : (scope : Scope) (path : Path) (xs ys before before' : List Value) → Alike (index_mentions path) xs ys →
      SameAt (roots_in_path path) before before' →
      (path_meaning_of scope path).positions (seen xs before) ≡ (path_meaning_of scope path).positions (seen ys before')
  pub reads : (scope : Scope) (path : Path) (xs ys before before' : List Value) → Alike (path_mentions path) xs ys →
      SameAt (roots_in_path path) before before' →
      reading (path_meaning_of scope path) (seen xs before) ≡ reading (path_meaning_of scope path) (seen ys before')

-- the variables that an act names
abbrev pub named_by : Stmt → List ℕ
named_by s = (naming_of s).named

-- an act depends only on what its statement reads and writes, and on former values of the variables it names
abbrev pub ActsAreLocal : Type 0
ActsAreLocal =
    (scope : Scope) (s : Stmt) (xs ys before before' : List Value) → Alike (reads s ++ writes s) xs ys → SameAt (named_by s) before before' →
    LeftAlike (writes s) (acted scope (out-StmtKind (out-Stmt s).what) (seen xs before)) (acted scope (out-StmtKind (out-Stmt s).what) (seen ys before'))
