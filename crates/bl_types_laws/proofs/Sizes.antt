-- How deep an expression is nested, and which variables it names.
use Rattle.std.proofs.Common.{◌≡◌, ℕ, ℤ, ◌+◌, ◌≤◌, List, [], ◌∷◌, ◌++◌, map, Option, Some, None, refl, ap, subst, sym, ◌∙◌, arith}
use Rattle.std.specs.Prelude.{max, ⊤}
use Rattle.std.specs.List.{cons_option}
use Rattle.bl_tree.proofs.Basics.{none_at_most}
use Rattle.bl_tree.specs.declared.place.Place.{Place}
use Rattle.bl_tree.specs.declared.scalar.Op.{Op}
use Rattle.bl_tree.specs.declared.scalar.Scalar.{Scalar as ScalarType}
use Rattle.bl_tree.specs.declared.tree.Expr.{Expr, fold-roll-Expr, roll-Expr}
use Rattle.bl_tree.specs.declared.tree.ExprKind.{ExprKind, fold-ExprKind, fold_out-ExprKind, map-ExprKind, out-ExprKind}
use Rattle.bl_tree.specs.declared.tree.ExprKind.TheOpen.{ExprKind-F, Part-F}
use Rattle.bl_tree.specs.declared.tree.ExprKind.TheVariants as what
use Rattle.bl_tree.specs.declared.tree.Part.{Part, fold-Part, fold_out-Part, map-Part, out-Part}
use Rattle.bl_tree.specs.declared.tree.Part.TheVariants as part
use Rattle.bl_tree.specs.declared.tree.Path.{Path, fold-roll-Path}
use Rattle.bl_tree.specs.declared.tree.Ty.{Ty}
use Rattle.bl_tree.specs.Apart.{Roots}
use Rattle.bl_tree.specs.Apart as names
use Rattle.bl_tree.specs.Depths as depths
use Rattle.bl_tree.specs.Reduce.{greatest, joined}
use Rattle.bl_types.specs.Expressions.{call, cast, path, previous, read}
use Rattle.bl_types.specs.Settled.{literal, one, two}
use Rattle.bl_types_laws.proofs.Orders.{Among, among_behind, among_both, among_further, among_none, among_self, max_behind, max_grows}
use Rattle.bl_names_laws.proofs.StmtDepth.{one_more}

-- ---- sizes

pub record Size : Type 0 where
  pub depth : ℕ
  pub roots : Roots

-- no deeper, and no more is named
pub record SizeMost (one other : Size) : Type 0 where
  pub depth : one.depth ≤ other.depth
  pub roots : Among one.roots other.roots

abbrev pub empty : Size
empty = record { depth = 0; roots = [] }

abbrev pub deeper : Size → Size
deeper size = record { depth = 1 + size.depth; roots = size.roots }

abbrev pub beside : Size → Size → Size
beside one other = record { depth = max one.depth other.depth; roots = one.roots ++ other.roots }

pub size_self : (size : Size) → SizeMost size size
size_self size = record { depth = omega arith; roots = among_self size.roots }

pub size_empty : (size : Size) → SizeMost empty size
size_empty size = record { depth = none_at_most size.depth; roots = among_none size.roots }

pub size_further : (a b c : Size) → SizeMost a b → SizeMost b c → SizeMost a c
size_further a b c one more = record {
  depth = let first = one.depth in let then_ = more.depth in
      omega arith;
  roots = among_further a.roots b.roots c.roots one.roots more.roots;
}

pub size_deeper : (a b : Size) → SizeMost a b → SizeMost (deeper a) (deeper b)
size_deeper a b most = record { depth = one_more a.depth b.depth most.depth; roots = most.roots }

pub size_beside : (a b c d : Size) → SizeMost a c → SizeMost b d → SizeMost (beside a b) (beside c d)
size_beside a b c d one other = record {
  depth = max_grows a.depth b.depth c.depth d.depth one.depth other.depth;
  roots = among_both a.roots b.roots c.roots d.roots one.roots other.roots;
}

size_behind : (a b c : Size) → SizeMost a c → SizeMost a (beside b c)
size_behind a b c most = record { depth = max_behind a.depth b.depth c.depth most.depth; roots = among_behind a.roots b.roots c.roots most.roots }

-- the size of all of these
abbrev pub size_all : {A : Type 0} → (A → ℕ) → (A → Roots) → List A → Size
size_all depth roots xs = record { depth = greatest (map depth xs); roots = joined (map roots xs) }

-- ---- what is made is no more

-- what is made has at most this size
abbrev pub MadeIn : {A : Type 0} → (A → Size) → Size → Option A → Type 0
MadeIn of size (Some a) = SizeMost (of a) size
MadeIn of size None = ⊤

-- so do all that are made, of what has these sizes together
pub made_first : {A : Type 0} (depth : A → ℕ) (roots : A → Roots) (made : Option A) (rest : List A) (first size : Size) →
    MadeIn (λ a. record { depth = depth a; roots = roots a }) first made → SizeMost (size_all depth roots rest) size →
    SizeMost (size_all depth roots (cons_option made rest)) (beside first size)
made_first depth roots (Some a) rest first size one more = size_beside (record { depth = depth a; roots = roots a }) (size_all depth roots rest) first size one
    more
made_first depth roots None rest first size one more = size_behind (size_all depth roots rest) first size more

-- ---- typed expressions

abbrev pub size_of : Expr → Size
size_of e = record { depth = depths.expr_depth e; roots = names.roots_in e }

abbrev pub part_depth : Part → ℕ
part_depth = fold-Part ℕ ℕ ℕ ℕ depths.kind_depth depths.part_depth depths.expr_layer_depth depths.path_layer_depth

abbrev pub part_roots : Part → Roots
part_roots = fold-Part Roots Roots Roots Roots names.kind_roots names.part_roots names.expr_layer_roots names.path_layer_roots

abbrev pub size_of_part : Part → Size
size_of_part part = record { depth = part_depth part; roots = part_roots part }

abbrev pub size_of_path : Path → Size
size_of_path path = record { depth = depths.path_depth path; roots = names.roots_in_path path }

abbrev pub Layer : Type 0
Layer = ExprKind-F ExprKind Part Expr Path

abbrev depth_kind : Layer → ℕ
depth_kind layer = depths.kind_depth
    (map-ExprKind ExprKind Part Expr Path ℕ ℕ ℕ ℕ (fold-ExprKind ℕ ℕ ℕ ℕ depths.kind_depth depths.part_depth depths.expr_layer_depth
    depths.path_layer_depth)
    part_depth depths.expr_depth depths.path_depth layer)

abbrev roots_kind : Layer → Roots
roots_kind layer = names.kind_roots
    (map-ExprKind ExprKind Part Expr Path Roots Roots Roots Roots (fold-ExprKind Roots Roots Roots Roots names.kind_roots names.part_roots
    names.expr_layer_roots names.path_layer_roots) part_roots names.roots_in names.roots_in_path layer)

abbrev pub size_kind : Layer → Size
size_kind layer = record { depth = depth_kind layer; roots = roots_kind layer }

pub size_at : (at : Place) (kind : ExprKind) (layer : Layer) → out-ExprKind kind ≡ layer →
    size_of (roll-Expr (record { place = at; what = kind })) ≡ size_kind layer
size_at at kind layer is =
    let depth_is : depths.expr_depth (roll-Expr (record { place = at; what = kind })) ≡ depth_kind layer =
    rw fold-roll-Expr (fold_out-ExprKind ℕ ℕ ℕ ℕ depths.kind_depth depths.part_depth depths.expr_layer_depth depths.path_layer_depth
    kind ∙ ap depth_kind is) in
    let roots_are : names.roots_in (roll-Expr (record { place = at; what = kind })) ≡ roots_kind layer =
    rw fold-roll-Expr (fold_out-ExprKind Roots Roots Roots Roots names.kind_roots names.part_roots names.expr_layer_roots names.path_layer_roots kind
    ∙ ap roots_kind is) in
    λ i. record { depth = depth_is i; roots = roots_are i }

abbrev depth_step : Part-F ExprKind Part Expr Path → ℕ
depth_step layer = depths.part_depth
    (map-Part ExprKind Part Expr Path ℕ ℕ ℕ ℕ (fold-ExprKind ℕ ℕ ℕ ℕ depths.kind_depth depths.part_depth depths.expr_layer_depth
    depths.path_layer_depth)
    part_depth depths.expr_depth depths.path_depth layer)

abbrev roots_step : Part-F ExprKind Part Expr Path → Roots
roots_step layer = names.part_roots
    (map-Part ExprKind Part Expr Path Roots Roots Roots Roots (fold-ExprKind Roots Roots Roots Roots names.kind_roots names.part_roots names.expr_layer_roots
    names.path_layer_roots) part_roots names.roots_in names.roots_in_path layer)

part_at : (part : Part) (layer : Part-F ExprKind Part Expr Path) → out-Part part ≡ layer →
    size_of_part part ≡ record { depth = depth_step layer; roots = roots_step layer }
part_at part layer is =
    let depth_is = fold_out-Part ℕ ℕ ℕ ℕ depths.kind_depth depths.part_depth depths.expr_layer_depth depths.path_layer_depth part
    ∙ ap depth_step is in
    let roots_are = fold_out-Part Roots Roots Roots Roots names.kind_roots names.part_roots names.expr_layer_roots names.path_layer_roots part
    ∙ ap roots_step is in
    λ i. record { depth = depth_is i; roots = roots_are i }

pub literal_size : (at : Place) (n : ℤ) (s : ScalarType) → size_of (literal at n s) ≡ empty
literal_size at n s = size_at at (what.Literal n s) (ExprKind-F.Literal n s) (what.outs-Literal n s)

pub read_size : (at : Place) (path : Path) → size_of (read at path) ≡ size_of_path path
read_size at path = size_at at (what.Read path) (ExprKind-F.Read path) (what.outs-Read path)

pub previous_size : (at : Place) (k : ℕ) → size_of (previous at k) ≡ record { depth = 0; roots = k ∷ [] }
previous_size at k = size_at at (what.Prev k) (ExprKind-F.Prev k) (what.outs-Prev k)

pub one_size : (at : Place) (op : Op) (a : Expr) → size_of (one at op a) ≡ deeper (size_of a)
one_size at op a = size_at at (what.One op a) (ExprKind-F.One op a) (what.outs-One op a)

pub two_size : (at : Place) (op : Op) (a b : Expr) → size_of (two at op a b) ≡ deeper (beside (size_of a) (size_of b))
two_size at op a b = size_at at (what.Two op a b) (ExprKind-F.Two op a b) (what.outs-Two op a b)

pub cast_size : (at : Place) (target : ScalarType) (a : Expr) → size_of (cast at target a) ≡ deeper (size_of a)
cast_size at target a = size_at at (what.Cast target a) (ExprKind-F.Cast target a) (what.outs-Cast target a)

pub call_size : (at : Place) (f : ℕ) (inputs : List Expr) → size_of (call at f inputs) ≡ deeper (size_all depths.expr_depth names.roots_in inputs)
call_size at f inputs = size_at at (what.Call f inputs) (ExprKind-F.Call f inputs) (what.outs-Call f inputs)

pub field_size : (k : ℕ) → size_of_part (part.Field k) ≡ empty
field_size k = part_at (part.Field k) (Part-F.Field k) (part.outs-Field k)

pub index_size : (e : Expr) → size_of_part (part.Index e) ≡ deeper (size_of e)
index_size e = part_at (part.Index e) (Part-F.Index e) (part.outs-Index e)

abbrev pub rooted : Roots → Size → Size
rooted roots size = record { depth = size.depth; roots = roots ++ size.roots }

pub path_size : (at : Place) (k : ℕ) (parts : List Part) (ty : Ty) →
    size_of_path (path at k parts ty) ≡ rooted (k ∷ []) (size_all part_depth part_roots parts)
path_size at k parts ty =
    let depth_is : depths.path_depth (path at k parts ty) ≡ greatest (map part_depth parts) = rw fold-roll-Path refl in
    let roots_are : names.roots_in_path (path at k parts ty) ≡ k ∷ joined (map part_roots parts) = rw fold-roll-Path refl in
    λ i. record { depth = depth_is i; roots = roots_are i }

pub size_rooted : (roots : Roots) (a b : Size) → SizeMost a b → SizeMost (rooted roots a) (rooted roots b)
size_rooted roots a b most = record { depth = most.depth; roots = among_both roots a.roots roots b.roots (among_self roots) most.roots }

-- what is equal to something no more is no more
pub size_is : (a b size : Size) → a ≡ b → SizeMost b size → SizeMost a size
size_is a b size is most = subst (λ a. SizeMost a size) (sym is) most

-- ---- operators on what is no more

pub one_most : (at : Place) (op : Op) (a : Expr) (size : Size) → SizeMost (size_of a) size → SizeMost (size_of (one at op a)) (deeper size)
one_most at op a size most = size_is (size_of (one at op a)) (deeper (size_of a)) (deeper size) (one_size at op a) (size_deeper (size_of a) size most)

pub two_most : (at : Place) (op : Op) (a b : Expr) (left right : Size) → SizeMost (size_of a) left → SizeMost (size_of b) right →
    SizeMost (size_of (two at op a b)) (deeper (beside left right))
two_most at op a b left right most other =
    size_is (size_of (two at op a b)) (deeper (beside (size_of a) (size_of b))) (deeper (beside left right)) (two_size at op a b)
    (size_deeper (beside (size_of a) (size_of b)) (beside left right) (size_beside (size_of a) (size_of b) left right most other))

pub cast_most : (at : Place) (target : ScalarType) (a : Expr) (size : Size) → SizeMost (size_of a) size →
    SizeMost (size_of (cast at target a)) (deeper size)
cast_most at target a size most = size_is (size_of (cast at target a)) (deeper (size_of a)) (deeper size) (cast_size at target a)
    (size_deeper (size_of a) size most)

-- ---- beside what is not deep

pub size_first : (a b c d : Size) → d.depth ≡ 0 → SizeMost a c → SizeMost b d →
    SizeMost (beside a b) (record { depth = c.depth; roots = c.roots ++ d.roots })
size_first a b c d flat one other = record {
  depth = deep a.depth b.depth c.depth d.depth flat one.depth other.depth;
  roots = among_both a.roots b.roots c.roots d.roots one.roots other.roots;
}
  where
    deep : (a b c d : ℕ) → d ≡ 0 → a ≤ c → b ≤ d → max a b ≤ c
    deep a b c d flat most less = grind arith

pub size_second : (a b c d : Size) → c.depth ≡ 0 → SizeMost a c → SizeMost b d →
    SizeMost (beside a b) (record { depth = d.depth; roots = c.roots ++ d.roots })
size_second a b c d flat one other = record {
  depth = deep a.depth b.depth c.depth d.depth flat one.depth other.depth;
  roots = among_both a.roots b.roots c.roots d.roots one.roots other.roots;
}
  where
    deep : (a b c d : ℕ) → c ≡ 0 → a ≤ c → b ≤ d → max a b ≤ d
    deep a b c d flat most less = grind arith
