-- What is counted and placed behind an item of a program in which the rules on names hold.
use Rattle.std.proofs.Common.{◌≡◌, ◌+◌, true, List, [], ◌∷◌, ◌++◌, length, Some, refl, sym, ap, subst, ◌∙◌, arith}
use Rattle.bl_tree.proofs.Basics.{plus_none}
use Rattle.bl_names_tree.specs.declared.item.NamedConstant.{NamedConstant}
use Rattle.bl_names_tree.specs.declared.item.NamedStruct.{NamedStruct}
use Rattle.bl_names_tree.specs.declared.item.NamedUnit.{NamedUnit}
use Rattle.bl_names_tree.specs.Placed.{constant_placed, holds_of, unit_step}
use Rattle.bl_names_scopes.specs.declared.kind.Kind.TheVariants as kinds
use Rattle.bl_names_scopes.specs.Marks.{constant_marks, declares, expr_marks, optional, struct_marks, type_marks}
use Rattle.bl_names_scopes.specs.Scopes.{Scopes, after}
use Rattle.bl_parse_tree.specs.declared.item.RawStruct.{RawStruct}
use Rattle.bl_parse_tree.specs.declared.stmt.RawConstant.{RawConstant}
use Rattle.bl_names.specs.Named.{named_constant, named_struct}
use Rattle.bl_names.proofs.BelowLemmas.{Below, constant_below, struct_below}
use Rattle.bl_names.proofs.FitLemmas.{Fits, fits_first}
use Rattle.bl_names.proofs.ItemLemmas.{struct_scopes}
use Rattle.bl_names.proofs.PastLemmas.{enter-behind}
use Rattle.bl_names.proofs.PlacedExpr.{earlier}
use Rattle.bl_names.proofs.PlacedItem.{UnitHolds}
use Rattle.bl_names.proofs.PlacedStmt.{Within, constant_is, within_one}
use Rattle.bl_names.proofs.StillLemmas.{still_value}

-- behind an item, which gives these structs, constants and units
pub record Onward (scopes new : Scopes) (structs : List NamedStruct) (constants : List NamedConstant) (units : List NamedUnit) : Type 0 where
  pub below : Below new
  pub none : new.counts.variables ≡ 0
  pub more_structs : new.counts.structs ≡ scopes.counts.structs + length structs
  pub more_constants : new.counts.constants ≡ scopes.counts.constants + length constants
  pub more_units : new.counts.units ≡ scopes.counts.units + length units

pub struct_onward : (scopes : Scopes) (def : RawStruct) → Below scopes → scopes.counts.variables ≡ 0 →
    Onward scopes (after scopes (struct_marks def)) (named_struct scopes def ∷ []) [] []
struct_onward scopes def below none =
    subst (λ new. Onward scopes new (named_struct scopes def ∷ []) [] []) (struct_scopes scopes def)
    (record {
      below = struct_below scopes def.name below;
      none = none;
      more_structs = refl;
      more_constants = plus_none scopes.counts.constants;
      more_units = plus_none scopes.counts.units;
    })

pub constant_onward : (scopes : Scopes) (def : RawConstant) → Below scopes → scopes.counts.variables ≡ 0 →
    Onward scopes (after scopes (constant_marks def)) [] (named_constant scopes def ∷ []) []
constant_onward scopes def below none =
    let marks = optional type_marks def.ty ++ expr_marks def.value in
    subst (λ new. Onward scopes new [] (named_constant scopes def ∷ []) [])
    (enter-behind scopes marks def.name kinds.Constant (still_value def.ty (Some def.value)))
    (record {
      below = constant_below scopes def.name below;
      none = none;
      more_structs = plus_none scopes.counts.structs;
      more_constants = refl;
      more_units = plus_none scopes.counts.units;
    })

pub constant_there : (constants : List NamedConstant) (scopes : Scopes) (def : RawConstant) → Below scopes → Fits scopes (constant_marks def) →
    Within constants scopes.counts.constants (named_constant scopes def ∷ []) → constant_placed (earlier scopes) (named_constant scopes def) ≡ true
constant_there constants scopes def below fits within =
    let marks = optional type_marks def.ty ++ expr_marks def.value in
    ap (holds_of (constant_placed (earlier scopes))) (sym (within_one constants scopes.counts.constants (named_constant scopes def) [] within))
    ∙ constant_is [] constants scopes def below (fits_first scopes marks (declares def.name kinds.Constant ∷ []) fits) within

pub unit_onward : (constants : List NamedConstant) (scopes new : Scopes) (unit : NamedUnit) (inside : List NamedConstant) →
    UnitHolds (unit_step constants unit (earlier scopes)) scopes new inside → Onward scopes new [] inside (unit ∷ [])
unit_onward constants scopes new unit inside holds = record {
  below = holds.below;
  none = holds.no_variables;
  more_structs = holds.same_structs ∙ plus_none scopes.counts.structs;
  more_constants = holds.more_constants;
  more_units = holds.more_units;
}
