-- What the laws say of an expression and an act at their place in a typed program.
use Rattle.std.proofs.Common.{◌≡◌, ℕ, true, List, take, Option, Some, None, refl, sym, subst, IfSome}
use Rattle.std.specs.Prelude.{option_and_then, option_map, slice_get}
use Rattle.bl_tree.specs.declared.tree.Expr.{Expr}
use Rattle.bl_tree.specs.declared.tree.Stmt.{Stmt}
use Rattle.bl_tree.specs.declared.tree.StructDef.{StructDef}
use Rattle.bl_tree.specs.declared.tree.Ty.{Ty}
use Rattle.bl_tree.specs.declared.tree.Unit.{Unit as UnitDef}
use Rattle.bl_tree.specs.Program.{IsWellTyped}
use Rattle.bl_tree.specs.Typing.{TypingContext, site_of, type_of}
use Rattle.bl_eval.specs.Functions.{callees_of}
use Rattle.bl_eval.specs.Meaning.{View, meaning_of, plain}
use Rattle.bl_eval.specs.Standing.{ActStandsInUnit, ExprStandsInUnit, outcome_in_unit, outcome_of, scope_of, type_in_unit, value_in_unit, value_of}
use Rattle.bl_eval.specs.Values.{value_fits, values_fit}
use Rattle.bl_eval.proofs.ActFits.{act_fits}
use Rattle.bl_eval.proofs.ExprFits.{expr_fits}
use Rattle.bl_eval.proofs.OperatorFits.{DatumFits, plain_fits}
use Rattle.bl_eval.proofs.PartFits.{Fits, if_map, if_some}
use Rattle.bl_eval.proofs.UnitFits.{sound_at}

module _ (structs : List StructDef) (units : List UnitDef) (entry k : ℕ) (view : View) (keeps : IsWellTyped structs units entry) where
  module _ (e : Expr) (stands : ExprStandsInUnit structs units k view e) where
    abbrev site : TypingContext
    site = site_of structs (take k units) stands.unit

    of_type : (typed : Option Ty) → type_of site e ≡ typed → IfSome (value_of site e view) (λ value. IfSome typed (λ ty. Fits structs ty value))
    of_type None is = if_some (λ value. IfSome {T = Ty} None (λ ty. Fits structs ty value)) (value_of site e view) (λ value _. tt)
    of_type (Some ty) is =
        if_map (DatumFits structs ty) (λ value. Fits structs ty value) plain (meaning_of (scope_of site) e view)
        (expr_fits structs (take k units) stands.unit (callees_of structs (take k units))
        (sound_at structs units entry k stands.unit keeps stands.is_there) view
        stands.fitting.now stands.fitting.before e ty is)
        (λ datum one. plain_fits structs ty datum one)

    pub value_typed : IfSome (value_in_unit structs units k e view)
        (λ value. IfSome (type_in_unit structs units k e) (λ ty. value_fits structs ty value ≡ true))
    value_typed =
        subst (λ (at : Option UnitDef). IfSome (option_and_then (λ site. value_of site e view) (option_map (site_of structs (take k units)) at))
        (λ value. IfSome (option_and_then (λ site. type_of site e) (option_map (site_of structs (take k units)) at))
        (λ ty. value_fits structs ty value ≡ true)))
        (sym stands.is_there) (of_type (type_of site e) refl)

  module _ (s : Stmt) (stands : ActStandsInUnit structs units k view s) where
    pub act_typed : IfSome (outcome_in_unit structs units k s view) (λ left. IfSome (slice_get units k) (λ unit. values_fit structs unit.vars left ≡ true))
    act_typed =
        subst (λ (at : Option UnitDef). IfSome (option_and_then (λ site. outcome_of site s view) (option_map (site_of structs (take k units)) at))
        (λ left. IfSome at (λ unit. values_fit structs unit.vars left ≡ true)))
        (sym stands.is_there)
        (act_fits structs (take k units) stands.unit (callees_of structs (take k units)) (sound_at structs units entry k stands.unit keeps stands.is_there) view
        stands.fitting.now stands.fitting.before s stands.fitted)
