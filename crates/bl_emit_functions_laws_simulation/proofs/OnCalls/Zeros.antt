-- The zero of a type is what memory of zeros holds.
use Rattle.std.proofs.Common.{pos, List, [], ◌∷◌, map, sym, ap, ◌∙◌, subst}
use Rattle.std.proofs.lemmas.Option.{same_Some}
use Rattle.std.specs.Prelude.{option_and_then, replicate, slice_get}
use Rattle.bl_tree.specs.declared.tree.StructDef.{StructDef}
use Rattle.bl_tree.specs.declared.tree.Field.{Field}
use Rattle.bl_tree.specs.declared.tree.Ty.{Ty, fold-roll-Ty, ind-Ty, roll-Ty}
use Rattle.bl_tree.specs.declared.tree.Ty.TheOpen.{Ty-F}
use Rattle.bl_tree.specs.declared.value.Value.{Value}
use Rattle.bl_tree.specs.declared.value.Value.TheVariants.{Number, Parts, outs-Number}
use Rattle.bl_eval.specs.Values.{number_at as number_level, number_in, parts_at, struct_zero, value_at, zero_by}
use Rattle.bl_emit_acts_laws_simulation.proofs.Zeros.{With, AllZero, EachZero, bare, parts_zero, replicate_zero, map_zero, get_zero}

number_zero : AllZero (Number (pos 0))
number_zero [] n is = sym (same_Some (pos 0) n (sym (ap number_level (outs-Number (pos 0))) ∙ is))
number_zero (k ∷ ks) n is = absurd (let none = sym (ap (λ layer. option_and_then number_in (option_and_then (value_at ks)
    (option_and_then (λ all. slice_get all k) (parts_at layer)))) (outs-Number (pos 0))) ∙ is in cc)

module _ (zeros : List Value) (each : EachZero zeros) where
  abbrev Zero : Ty → Type 0
  Zero ty = AllZero (zero_by zeros ty)

  no_parts : AllZero (Parts [])
  no_parts = parts_zero [] (λ k value there. absurd (cc))

  level_zero : (layer : With Zero) → Zero (roll-Ty (bare Zero layer))
  level_zero (Ty-F.Scalar s) = rw fold-roll-Ty number_zero
  level_zero (Ty-F.Struct k) = rw fold-roll-Ty (get_zero zeros k (Parts []) each no_parts)
  level_zero (Ty-F.Array m element) =
      rw fold-roll-Ty (parts_zero (replicate m (zero_by zeros element.0)) (replicate_zero m (zero_by zeros element.0) element.1))

  by_zero : (ty : Ty) → Zero ty
  by_zero = ind-Ty Zero (λ x y is. subst (λ layer. Zero (roll-Ty layer)) is (level_zero y))

  struct_is_zero : (def : StructDef) → AllZero (struct_zero zeros def)
  struct_is_zero def =
      parts_zero (map (λ (field : Field). zero_by zeros field.ty) def.fields)
      (map_zero (λ (field : Field). zero_by zeros field.ty) (λ (field : Field). by_zero field.ty) def.fields)
