-- Static field paths: a variable with its fields up to the first index.
use Rattle.std.specs.Prelude.{ℕ, Bool, true, false, ◌&&◌, ◌||◌, nat_eq, nat_lt, List, [], ◌∷◌, map, Option, Some, None, if◌then◌else◌}
use Rattle.std.specs.List.{list_any}
use Rattle.bl_tree.specs.declared.tree.Expr.{Expr, fold-Expr}
use Rattle.bl_tree.specs.declared.tree.ExprKind.TheOpen.{ExprKind-F, Part-F, Path-F, Expr-F}
use Rattle.bl_tree.specs.declared.tree.Part.{Part, fold-Part}
use Rattle.bl_tree.specs.declared.tree.Path.{Path, fold-Path}
use Rattle.bl_tree.specs.Reduce.{joined}
use Rattle.bl_tree.specs.declared.static_path.Static.{Static}

-- a whole variable
abbrev pub whole : ℕ → Static
whole root = record { root = root; fields = [] }

-- ---- overlap

-- whether the first list is a front of the second
abbrev pub is_front : List ℕ → List ℕ → Bool
is_front [] ys = true
is_front (x ∷ xs) [] = false
is_front (x ∷ xs) (y ∷ ys) = nat_eq x y && is_front xs ys

-- whether two static paths overlap: equal roots, and the fields of one are a front of the other's
abbrev pub overlaps : Static → Static → Bool
overlaps a b = nat_eq a.root b.root && (is_front a.fields b.fields || is_front b.fields a.fields)

-- whether a static path of the one list overlaps one of the other
abbrev pub meets : List Static → List Static → Bool
meets xs ys = list_any (λ a. list_any (overlaps a) ys) xs

-- ---- sets of static paths, as lists in ascending order without repetition

-- whether the first fields come before the second: a front comes before what is longer, and else the first field that differs decides
abbrev pub fields_precede : List ℕ → List ℕ → Bool
fields_precede [] [] = false
fields_precede [] (y ∷ ys) = true
fields_precede (x ∷ xs) [] = false
fields_precede (x ∷ xs) (y ∷ ys) = nat_lt x y || (nat_eq x y && fields_precede xs ys)

-- whether the first static path comes before the second: by their roots, and then by their fields
abbrev pub precedes : Static → Static → Bool
precedes a b = nat_lt a.root b.root || (nat_eq a.root b.root && fields_precede a.fields b.fields)

-- an ascending list of static paths with one more in its place, unless it is there already
abbrev pub placed : Static → List Static → List Static
placed a [] = a ∷ []
placed a (b ∷ rest) = if precedes a b then a ∷ b ∷ rest else (if precedes b a then b ∷ placed a rest else b ∷ rest)

-- the set of the static paths of a list: in ascending order, each once
abbrev pub set_of : List Static → List Static
set_of [] = []
set_of (a ∷ rest) = placed a (set_of rest)

-- ---- the static path of a path in the tree, and what an expression reads

-- what a part of a path gives: its field, where it is one, and what its index reads
pub record StaticStep : Type 0 where
  pub field : Option ℕ
  pub reads : List Static

-- what a path gives: its static path, and what its indices read
pub record Reach : Type 0 where
  pub static : Static
  pub indices : List Static

-- a field before further ones; an index ends them
abbrev pub before_index : Option ℕ → List ℕ → List ℕ
before_index (Some k) rest = k ∷ rest
before_index None rest = []

-- the fields up to the first index, of parts one after another
abbrev pub leading_fields : List StaticStep → List ℕ
leading_fields [] = []
leading_fields (step ∷ rest) = before_index step.field (leading_fields rest)

-- the static paths that one layer of an expression reads, in source order, from what its operands read
abbrev pub kind_mentions : ExprKind-F (List Static) StaticStep (List Static) Reach → List Static
kind_mentions (ExprKind-F.Literal n s) = []
kind_mentions (ExprKind-F.Read path) = path.static ∷ path.indices
kind_mentions (ExprKind-F.Prev k) = []
kind_mentions (ExprKind-F.One op a) = a
kind_mentions (ExprKind-F.Two op a b) = joined (a ∷ b ∷ [])
kind_mentions (ExprKind-F.Cast target a) = a
kind_mentions (ExprKind-F.Call f inputs) = joined inputs

-- a field gives its number and reads nothing; an index gives no field and reads what its expression reads
abbrev pub part_step : Part-F (List Static) StaticStep (List Static) Reach → StaticStep
part_step (Part-F.Field k) = record { field = Some k; reads = [] }
part_step (Part-F.Index e) = record { field = None; reads = e }

-- an expression reads what its kind reads, wherever it stands
abbrev pub expr_mentions : Expr-F (List Static) StaticStep (List Static) Reach → List Static
expr_mentions e = e.what

-- a path gives its root with the fields up to the first index, and what all of its indices read
abbrev pub path_reach : Path-F (List Static) StaticStep (List Static) Reach → Reach
path_reach path = record {
  static = record { root = path.root; fields = leading_fields path.parts };
  indices = joined (map (λ step. step.reads) path.parts);
}

-- the static paths that an expression reads in source order, those of indices included; `prev x` reads none
abbrev pub mentions : Expr → List Static
mentions = fold-Expr (List Static) StaticStep (List Static) Reach kind_mentions part_step expr_mentions path_reach

-- what a part of a path gives
abbrev pub step_of : Part → StaticStep
step_of = fold-Part (List Static) StaticStep (List Static) Reach kind_mentions part_step expr_mentions path_reach

-- what the index of a part reads, where it is one
abbrev pub part_mentions : Part → List Static
part_mentions part = (step_of part).reads

-- what a path gives
abbrev pub reach_of : Path → Reach
reach_of = fold-Path (List Static) StaticStep (List Static) Reach kind_mentions part_step expr_mentions path_reach

-- the static path of a path: its root with its fields up to the first index
abbrev pub static_of : Path → Static
static_of path = (reach_of path).static

-- what the indices of a path read
abbrev pub index_mentions : Path → List Static
index_mentions path = (reach_of path).indices

-- what reading a path reads: its static path, and what its indices read
abbrev pub path_mentions : Path → List Static
path_mentions path = static_of path ∷ index_mentions path
