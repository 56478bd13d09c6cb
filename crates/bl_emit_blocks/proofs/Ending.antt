-- Whether a body never ends is told by its last statement.
use Rattle.std.proofs.Common.{◌≡◌, ◌-◌, List, [], ◌∷◌, map, Some, ap}
use native.Mathlib.Numerals.{unary_clauses}
use Rattle.std.proofs.lemmas.Option.{same_Some}
use Rattle.std.specs.Prelude.{length, slice_get}
use Rattle.bl_tree.specs.declared.tree.Stmt.{Stmt}
use Rattle.bl_tree.specs.Returns.{last_of}
use Rattle.bl_emit_spec.specs.Blocks.{is_endless}

pub ends-last : (body : List Stmt) (s : Stmt) → slice_get body (length body - 1) ≡ Some s → last_of (map is_endless body) ≡ is_endless s
ends-last [] s h = absurd (cc)
ends-last (x ∷ []) s h = ap is_endless (same_Some x s h)
ends-last (x ∷ y ∷ rest) s h = ends-last (y ∷ rest) s (simp unary_clauses (simp unary_clauses at h))
