-- What a variable's role tells of its position, and its position of its home.
use Rattle.std.proofs.Common.{◌≡◌, ℕ, ◌+◌, ◌<◌, ◌≤◌, arith, Bool, true, false, ◌&&◌}
use Rattle.std.proofs.Common.{◌||◌, [], length, take, Option, Some, None, refl, sym, ap, ◌∙◌}
use Rattle.std.proofs.lemmas.Bool.{leb-false, leb-true}
use Rattle.std.specs.List.{list_all}
use Rattle.std.specs.Prelude.{List, is_some, nat_le, nat_lt, option_and_then, option_map, slice_get, if◌then◌else◌, ◌-◌}
use Rattle.std.proofs.lemmas.Bool.{false_from_ne_true}
use Rattle.bl_tree.proofs.Basics.{and_first, and_second, get_taken}
use Rattle.bl_tree.specs.declared.tree.StructDef.{StructDef}
use Rattle.bl_tree.specs.declared.tree.Unit.{Unit as UnitDef}
use Rattle.bl_tree.specs.declared.tree.Var.{Var}
use Rattle.bl_tree.specs.Program.{IsWellTyped, is_input, is_output, locals_of, roles_stand}
use Rattle.bl_tree.specs.Static.{whole}
use Rattle.bl_tree.specs.Types.{scalar_in}
use Rattle.bl_tree.specs.Typing.{TypingContext, inputs_of, is_activity, is_fixed, is_variable, outputs_of}
use Rattle.bl_eval.proofs.PassLemmas.{all_at}
use Rattle.bl_ctree.specs.declared.instance.Instance.{Instance}
use Rattle.bl_ctree.specs.declared.instance.Origin.{Origin}
use Rattle.bl_ctree.specs.Instances.{Setting, unit_of}
use Rattle.bl_ctree.specs.Store.{is_output_of, led, led_by, under, whole_of}
use Rattle.bl_ctree_laws_typing.proofs.OnViews.Running.{parameters_within}
use Rattle.bl_emit_acts.specs.declared.home.Home.TheVariants.{Held}
use Rattle.bl_emit_acts.specs.Places.{home_of}
use Rattle.bl_emit_acts_laws_simulation.proofs.Homes.{activity_home, input_unheld}
use Rattle.bl_eval.proofs.UnitFits.{unit_at}

pub roles_at : (structs : List StructDef) (units : List UnitDef) (entry k : ℕ) (unit : UnitDef) → IsWellTyped structs units entry →
    slice_get units k ≡ Some unit → roles_stand unit ≡ true
roles_at structs units entry k unit keeps there =
    parameters_within structs (take k units) unit (unit_at structs [] units k unit keeps.units_stand there)

module _ (unit : UnitDef) (roles : roles_stand unit ≡ true) where
  abbrev all_inputs : Bool
  all_inputs = list_all (λ (var : Var). is_input var.role) (inputs_of unit)

  abbrev all_outputs : Bool
  all_outputs = list_all (λ (var : Var). is_output var.role) (outputs_of unit)

  abbrev all_locals : Bool
  all_locals = list_all (λ (var : Var). is_variable var.role || is_fixed var.role) (locals_of unit)

  pub parameters_few : unit.inputs + unit.outputs ≤ length unit.vars
  parameters_few =
      leb-true (unit.inputs + unit.outputs) (length unit.vars)
      (and_first (nat_le (unit.inputs + unit.outputs) (length unit.vars)) (all_inputs && (all_outputs && all_locals)) roles)

  others_so : (all_inputs && (all_outputs && all_locals)) ≡ true
  others_so = and_second (nat_le (unit.inputs + unit.outputs) (length unit.vars)) (all_inputs && (all_outputs && all_locals)) roles

  input_role : (x : ℕ) (var : Var) → x < unit.inputs → slice_get unit.vars x ≡ Some var → is_input var.role ≡ true
  input_role x var less there =
      all_at (λ (var : Var). is_input var.role) (inputs_of unit) x var (and_first all_inputs (all_outputs && all_locals) others_so)
      (get_taken unit.vars unit.inputs x less ∙ there)

-- what an activity keeps stands behind its inputs
pub held_behind : (unit : UnitDef) (x : ℕ) (site : TypingContext) (var : Var) → is_activity site.kind ≡ true → roles_stand unit ≡ true →
    slice_get unit.vars x ≡ Some var → home_of site (Some var) ≡ Held → unit.inputs ≤ x
held_behind unit x site var active roles there held = by (nat_le unit.inputs x) refl
  where
    by : (b : Bool) → nat_le unit.inputs x ≡ b → unit.inputs ≤ x
    by true is = leb-true unit.inputs x is
    by false is =
        let less : x < unit.inputs = leb-false unit.inputs x is in
        absurd (input_unheld false var.role (is_some (scalar_in var.ty)) (input_role unit roles x var less there)
        (sym (activity_home site var active) ∙ held))

-- an input is no output
pub input_no_output : (unit : UnitDef) (x : ℕ) → x < unit.inputs → is_output_of unit x ≡ false
input_no_output unit x less = false_from_ne_true (is_output_of unit x) by
  where
    by : is_output_of unit x ≡ true → ⊥
    by among =
        let least : unit.inputs ≤ x =
        leb-true unit.inputs x (and_first (nat_le unit.inputs x) (nat_lt x (unit.inputs + unit.outputs)) among) in
        absurd (omega (arith, less, least))

-- what is no output of its unit leads to no caller
pub led_nowhere : (w : Setting) (j x : ℕ) →
    ((instance : Instance) (unit : UnitDef) → slice_get w.instances j ≡ Some instance → unit_of w instance ≡ Some unit →
    is_output_of unit x ≡ false) → led w (whole_of j x) ≡ None
led_nowhere w j x never = by_instance (slice_get w.instances j) refl
  where
    by_unit : (instance : Instance) → slice_get w.instances j ≡ Some instance → (origin : Origin) (o : Option UnitDef) → unit_of w instance ≡ o →
        option_and_then (led_by (whole x) origin) o ≡ None
    by_unit instance is origin None there = refl
    by_unit instance is origin (Some unit) there =
        ap (λ b. if b
        then option_map (under origin.caller (whole x).fields) (slice_get origin.outputs ((whole x).root - unit.inputs))
        else None) (never instance unit is there)

    by_origin : (instance : Instance) → slice_get w.instances j ≡ Some instance → (o : Option Origin) →
        option_and_then (λ origin. option_and_then (led_by (whole x) origin) (unit_of w instance)) o ≡ None
    by_origin instance is None = refl
    by_origin instance is (Some origin) = by_unit instance is origin (unit_of w instance) refl

    by_instance : (o : Option Instance) → slice_get w.instances j ≡ o →
        option_and_then (λ instance. option_and_then (λ origin. option_and_then (led_by (whole x) origin) (unit_of w instance))
        instance.origin) o ≡ None
    by_instance None is = refl
    by_instance (Some instance) is = by_origin instance is instance.origin
