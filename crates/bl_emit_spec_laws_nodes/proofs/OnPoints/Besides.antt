-- The memory of C beside the values that an instance sees in the middle of its pass.
use Rattle.std.proofs.Common.{◌≡◌, ℕ, List, take, Option, Some, None, ap, ◌∙◌, subst}
use Rattle.std.specs.Prelude.{option_and_then, option_map, slice_get, unwrap_or}
use Rattle.bl_tree.specs.declared.tree.Expr.{Expr}
use Rattle.bl_tree.specs.declared.tree.StructDef.{StructDef}
use Rattle.bl_tree.specs.declared.tree.Unit.{Unit as UnitDef}
use Rattle.bl_tree.specs.declared.value.Value.{Value}
use Rattle.bl_tree.specs.Typing.{TypingContext, site_of}
use Rattle.bl_eval.specs.Meaning.{View as Sight, value_in}
use Rattle.bl_eval.specs.Standing.{scope_of, value_in_unit, value_of}
use Rattle.bl_ctext_semantics.specs.Meaning.{Scope}
use Rattle.bl_ctext_semantics.specs.Memory.{Memory}
use Rattle.bl_ctree.specs.declared.instance.Instance.{Instance}
use Rattle.bl_ctree.specs.Actions.{value_there}
use Rattle.bl_ctree.specs.Instances.{Setting, setting_of, unit_at, unit_of}
use Rattle.bl_ctree.specs.Store.{Store, view_at}
use Rattle.bl_emit_acts.specs.Acts.{is_copied}
use Rattle.bl_emit_acts_laws_simulation.specs.Frames.{FrameApart, PointersAreValid}
use Rattle.bl_emit_acts_laws_simulation.specs.Encodes.{CopiesEncoded, VariablesEncoded}
use Rattle.bl_emit_acts_laws_simulation.specs.Laws.{Beside, FramesApart}
use Rattle.bl_emit_spec.specs.Activities.{copies_of}
use Rattle.bl_machine.specs.declared.machine.Activity.{Activity as InMachine}
use Rattle.bl_machine_pass.specs.Registers.{Registers}
use Rattle.bl_machine_pass_laws_execution.specs.Frames.{Frames}
use Rattle.bl_emit_spec_laws.specs.Calls.Built.{Activities, activity_at, site_at, unit_number}
use Rattle.bl_emit_spec_laws.specs.Calls.Laws.{Midway}
use Rattle.bl_emit_spec_laws_nodes.specs.Points.Nodes.{ViewsFit}

-- an expression of an instance has the value that it has in the instance's unit
pub value_there_is : (w : Setting) (i : ℕ) (unit : UnitDef) (e : Expr) (store : Store) → unit_at w i ≡ Some unit →
    value_there w store i e ≡ value_in (scope_of (site_of w.structs (take (unit_number w i) w.units) unit)) e (view_at w store i)
value_there_is w i unit e store there = by (slice_get w.instances i) there
  where
    by : (o : Option Instance) → option_and_then (unit_of w) o ≡ Some unit →
        option_and_then (λ instance. value_in_unit w.structs w.units instance.unit e (view_at w store i)) o
        ≡ value_in (scope_of (site_of w.structs (take (unwrap_or (option_map (λ instance. instance.unit) o) 0) w.units) unit)) e (view_at w store i)
    by None there = absurd (cc)
    by (Some instance) there =
        ap (λ (o : Option UnitDef). option_and_then (λ site. value_of site e (view_at w store i))
        (option_map (site_of w.structs (take instance.unit w.units)) o)) there

module _ (frames_apart : FramesApart) (structs : List StructDef) (units : List UnitDef) (entry : ℕ) (views : ViewsFit structs units entry)
    (machine : List InMachine) (activities : Activities) (i : ℕ) (unit : UnitDef) (scope : Scope) (frames : Frames) (store : Store)
    (copies : List Value) (r : Registers) (here : Memory)
    (midway : Midway structs units entry machine activities i unit scope frames store copies r here) where
  abbrev w : Setting
  w = setting_of structs units entry

  abbrev k : ℕ
  k = unit_number w i

  abbrev site : TypingContext
  site = site_of structs (take k units) unit

  -- what the statements see is what the unit's statements see
  pub site_is : site_at w activities i ≡ site
  site_is =
      let a = activity_at w activities i in
      let built = midway.compiled.built in
      let there = midway.function.is_there in
      ap (λ structs. site_of structs a.earlier a.unit) (built.structures k unit there)
      ∙ (ap (λ earlier. site_of structs earlier a.unit) (built.earlier k unit there) ∙ ap (site_of structs (take k units))
      (built.unit k unit there))

  -- the values now, and the copies as values before
  abbrev sight : Sight
  sight = record { now = (view_at w store i).now; before = copies }

  pub apart : FrameApart site (is_copied (copies_of unit)) scope
  apart =
      frames_apart site (is_copied (copies_of unit)) scope
      (subst (λ (site : TypingContext). PointersAreValid site scope) site_is midway.function.places.pointers)

  pub beside : Beside structs units k unit sight (is_copied (copies_of unit)) scope here
  beside = record {
    is_there = midway.function.is_there;
    fitting = record { now = views i unit store midway.is_there midway.fits; before = midway.copies_fit };
    variables = subst (λ (site : TypingContext). VariablesEncoded site (view_at w store i).now scope here) site_is midway.stands.variables;
    live = apart.live;
    copies = subst (λ (site : TypingContext). CopiesEncoded site copies (is_copied (copies_of unit)) scope here) site_is midway.stands.copied;
    functions = midway.function.functions.functions;
  }
