-- Tables of nodes by static paths: which nodes were noted with a path that overlaps another.
use Rattle.std.specs.Prelude.{◌≡◌, ℕ, zero, suc, List, [], ◌∷◌, ◌++◌, Option, None, Some, flat_map, length, slice_get, take, if◌then◌else◌}
use Rattle.std.specs.BTreeMap.{is_at}
use Rattle.std.specs.Map.{lookup}
use Rattle.bl_tree.specs.Order.{static_cmp}
use Rattle.bl_tree.specs.declared.static_path.Static.{Static}
use Rattle.bl_graph.specs.declared.accesses.Access.{Access}
use Rattle.bl_graph.specs.declared.flow.notes.Notes.{Notes}
use Rattle.bl_graph.specs.Accesses.{writers_of}
use Rattle.bl_graph.specs.inner.Gains.{Gains}

-- a node with one of the paths that it was noted with
pub record Note : Type 0 where
  pub node : ℕ
  pub path : Static

-- the node, noted with this path
abbrev pub note : ℕ → Static → Note
note node path = record { node = node; path = path }

-- a path with so many of its fields
abbrev pub front : Static → ℕ → Static
front path count = record { root = path.root; fields = take count path.fields }

-- what is made of each number below the last, in order
abbrev pub upto : {A : Type 0} → (ℕ → List A) → ℕ → List A
upto made zero = []
upto made (suc k) = upto made k ++ made k

-- the node with each front of the path that has fewer fields than so many
abbrev pub fronts_to : ℕ → Static → ℕ → List Note
fronts_to node path count = upto (λ k. note node (front path k) ∷ []) count

-- the node with each shorter front of the path
abbrev pub fronts_of : Note → List Note
fronts_of n = fronts_to n.node n.path (length n.path.fields)

-- each node with its path, and with each front of it
abbrev pub with_fronts : List Note → List Note
with_fronts ns = flat_map (λ n. fronts_of n ++ n ∷ []) ns

-- the nodes that were noted with exactly this path
abbrev pub numbers_at : Static → List Note → List ℕ
numbers_at path ns = flat_map (λ n. if is_at (static_cmp n.path) path then n.node ∷ [] else []) ns

-- the nodes that were noted with a path that is shorter than this one and begins it, and has fewer fields than so many
abbrev pub numbers_to : List Note → Static → ℕ → List ℕ
numbers_to ns path count = upto (λ k. numbers_at (front path k) ns) count

-- the nodes that were noted with a path that overlaps this one
abbrev pub numbers_met : List Note → Static → List ℕ
numbers_met ns path = numbers_at path (with_fronts ns) ++ numbers_to ns path (length path.fields)

-- ---- as they are kept

-- the writers of the access at a position are these, or there is no access and there are none
abbrev pub Stands : List (List ℕ) → Option ℕ → List ℕ → Type 0
Stands writers None nodes = [] ≡ nodes
Stands writers (Some k) nodes = slice_get writers k ≡ Some nodes

-- the table has at each path the access whose writers are the numbers of the notes
abbrev pub HasNotes : List (List ℕ) → List (Static × ℕ) → List Note → Type 0
HasNotes writers table ns = (path : Static) → Stands writers (lookup (is_at (static_cmp path)) table) (numbers_at path ns)

-- one table has the notes at their paths, the other at all fronts of their paths
pub record HasNotesAndFronts (writers : List (List ℕ)) (notes : Notes) (ns : List Note) : Type 0 where
  pub within : HasNotes writers notes.within (with_fronts ns)
  pub exactly : HasNotes writers notes.exactly ns

-- notes were added to a table
pub record Noting (before after : List Access) (old new : List (Static × ℕ)) (more : List Note) : Type 0 where
  pub gains : Gains before after []
  pub keeps : (ns : List Note) → HasNotes (writers_of before) old ns → HasNotes (writers_of after) new (ns ++ more)

-- notes were added to both tables
pub record NotingAll (before after : List Access) (old new : Notes) (more : List Note) : Type 0 where
  pub gains : Gains before after []
  pub keeps : (ns : List Note) → HasNotesAndFronts (writers_of before) old ns → HasNotesAndFronts (writers_of after) new (ns ++ more)
