-- The inputs of a `run` have in the C of its function the values that they have in the store.
use Rattle.std.proofs.Common.{◌≡◌, ℕ, ◌||◌, List, [], ◌∷◌, map}
use Rattle.std.proofs.Common.{take, Option, Some, None, refl, sym, ap, ap₂, ◌∙◌}
use Rattle.std.proofs.lemmas.List.Folds.{list_any-append}
use Rattle.std.specs.List.{list_any}
use Rattle.std.specs.Prelude.{nat_eq, option_and_then, option_map}
use Rattle.std.proofs.lemmas.Bool.{or_right}
use Rattle.bl_tree.specs.declared.tree.Expr.{Expr}
use Rattle.bl_tree.specs.declared.tree.Unit.{Unit as UnitDef}
use Rattle.bl_tree.specs.declared.value.Value.{Value}
use Rattle.bl_tree.specs.Typing.{TypingContext, site_of}
use Rattle.bl_machine_prevs.specs.Declared.{prevs_in_inputs}
use Rattle.bl_machine_prevs.specs.Prevs.{prevs_in_expr}
use Rattle.bl_eval.specs.declared.datum.Datum.{Datum}
use Rattle.bl_eval.specs.Meaning.{View as Sight, meaning_of, plain, values_of}
use Rattle.bl_eval.specs.Standing.{scope_of}
use Rattle.bl_ctree.specs.Actions.{value_there, values_there}
use Rattle.bl_ctree.specs.Instances.{Setting, unit_at}
use Rattle.bl_ctree.specs.Store.{Store, view_at}
use Rattle.bl_emit_spec_laws.specs.Calls.Built.{unit_number}
use Rattle.bl_emit_spec_laws_nodes.specs.Points.Nodes.{AgreeAt, PrevsAgree}
use Rattle.bl_emit_spec_laws_nodes.proofs.OnPoints.Besides.{value_there_is}

module _ (agree : PrevsAgree) (w : Setting) (i : ℕ) (unit : UnitDef) (store : Store) (there : unit_at w i ≡ Some unit) (copies : List Value) where
  abbrev site : TypingContext
  site = site_of w.structs (take (unit_number w i) w.units) unit

  abbrev sight : Sight
  sight = record { now = (view_at w store i).now; before = copies }

  value_same : (e : Expr) → AgreeAt (prevs_in_expr e) copies (view_at w store i).before →
      value_there w store i e ≡ option_map plain (meaning_of (scope_of site) e sight)
  value_same e same =
      value_there_is w i unit e store there
      ∙ ap (option_map plain) (sym (agree.values (scope_of site) e (view_at w store i).now copies (view_at w store i).before same))

  pub values_same : (inputs : List Expr) → AgreeAt (prevs_in_inputs inputs) copies (view_at w store i).before →
      values_there w store i inputs ≡ values_of (map (meaning_of (scope_of site)) inputs) sight
  values_same [] same = refl
  values_same (e ∷ rest) same =
      let first : AgreeAt (prevs_in_expr e) copies (view_at w store i).before =
      λ x named. same x (list_any-append (nat_eq x) (prevs_in_expr e) (prevs_in_inputs rest)
      ∙ ap (λ b. b || list_any (nat_eq x) (prevs_in_inputs rest)) named) in
      let more : AgreeAt (prevs_in_inputs rest) copies (view_at w store i).before =
      λ x named. same x (list_any-append (nat_eq x) (prevs_in_expr e) (prevs_in_inputs rest)
      ∙ or_right (list_any (nat_eq x) (prevs_in_expr e)) (list_any (nat_eq x) (prevs_in_inputs rest)) named) in
      ap₂ (λ value values. option_and_then (λ (value : Value). option_map (λ values. value ∷ values) values) value) (value_same e first)
      (values_same rest more)
      ∙ by (meaning_of (scope_of site) e sight) (values_of (map (meaning_of (scope_of site)) rest) sight)
    where
      by : (o : Option Datum) (others : Option (List Value)) →
          option_and_then (λ value. option_map (λ values. value ∷ values) others) (option_map plain o)
          ≡ option_and_then (λ datum. option_map (λ values. plain datum ∷ values) others) o
      by None others = refl
      by (Some datum) others = refl
