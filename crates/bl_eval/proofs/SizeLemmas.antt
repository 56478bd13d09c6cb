-- How deep expressions are against what stands in them.
use Rattle.std.proofs.Common.{◌≡◌, ℕ, suc, zero, ◌<◌, ◌≤◌, max, List, [], ◌∷◌, length, get_or, arith, ap, refl}
use denote.Param.Weighed.{most}
use Rattle.bl_tree.specs.declared.tree.Expr.{Expr, size-Expr, size_is-Expr, out-Expr}
use Rattle.bl_tree.specs.declared.tree.ExprKind.{size-ExprKind}
use Rattle.bl_tree.specs.declared.tree.ExprKind.TheVariants.{Read, Call}
use Rattle.bl_tree.specs.declared.tree.ExprKind.TheViews.{sized-Read, sized-Call, sized-Index}
use Rattle.bl_tree.specs.declared.tree.Part.{Part, size-Part}
use Rattle.bl_tree.specs.declared.tree.Part.TheVariants.{Index}
use Rattle.bl_tree.specs.declared.tree.Path.{Path, size-Path, size_is-Path, out-Path}
use Rattle.bl_eval.proofs.Weights.{exprs_depth, parts_depth}

most_parts : (parts : List Part) → most size-Part parts ≡ parts_depth parts
most_parts [] = refl
most_parts (part ∷ rest) = ap (max (size-Part part)) (most_parts rest)

most_exprs : (es : List Expr) → most size-Expr es ≡ exprs_depth es
most_exprs [] = refl
most_exprs (e ∷ rest) = ap (max (size-Expr e)) (most_exprs rest)

kind_size : (e : Expr) → size-ExprKind (out-Expr e).what < size-Expr e
kind_size e = omega (arith, size_is-Expr e)

path_size : (path : Path) → parts_depth (out-Path path).parts < size-Path path
path_size path = omega (arith, size_is-Path path, most_parts (out-Path path).parts)

pub read_size : (e : Expr) (path : Path) → (out-Expr e).what ≡ Read path → parts_depth (out-Path path).parts < size-Expr e
read_size e path is = omega (arith, kind_size e, ap size-ExprKind is, sized-Read path, path_size path)

pub call_size : (e : Expr) (f : ℕ) (inputs : List Expr) → (out-Expr e).what ≡ Call f inputs → exprs_depth inputs < size-Expr e
call_size e f inputs is = omega (arith, kind_size e, ap size-ExprKind is, sized-Call f inputs, most_exprs inputs)

pub index_size : (part : Part) (e : Expr) → part ≡ Index e → size-Expr e < size-Part part
index_size part e is = omega (arith, ap size-Part is, sized-Index e)

pub expr_at : (es : List Expr) (k : ℕ) (d : Expr) → k < length es → size-Expr (get_or es k d) ≤ exprs_depth es
expr_at [] k d within = absurd (omega arith)
expr_at (e ∷ rest) zero d within = omega arith
expr_at (e ∷ rest) (suc k) d within = let lt : k < length rest = omega arith in omega (arith, expr_at rest k d lt)

pub part_at : (parts : List Part) (k : ℕ) (d : Part) → k < length parts → size-Part (get_or parts k d) ≤ parts_depth parts
part_at [] k d within = absurd (omega arith)
part_at (part ∷ rest) zero d within = omega arith
part_at (part ∷ rest) (suc k) d within = let lt : k < length rest = omega arith in omega (arith, part_at rest k d lt)
