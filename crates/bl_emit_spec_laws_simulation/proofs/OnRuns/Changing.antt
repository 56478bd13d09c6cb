-- The changes behind what a node of a `run` has done.
use Rattle.std.proofs.Common.{◌≡◌, ℕ, Bool, true, false, List, sym, subst, ◌∙◌}
use Rattle.std.specs.List.{list_any}
use Rattle.std.proofs.lemmas.Bool.{false_from_ne_true}
use Rattle.bl_tree.proofs.Basics.{true_not_false}
use Rattle.bl_tree.specs.declared.tree.StructDef.{StructDef}
use Rattle.bl_tree.specs.declared.tree.Unit.{Unit as UnitDef}
use Rattle.bl_tree.specs.declared.value.Value.{Value}
use Rattle.bl_graph_nodes.specs.Nodes.{Node}
use Rattle.bl_ctext_semantics.specs.Meaning.{Scope, block_c}
use Rattle.bl_ctext_semantics.specs.Memory.{Memory}
use Rattle.bl_ctree.specs.Instances.{Setting, setting_of}
use Rattle.bl_ctree.specs.Store.{Store}
use Rattle.bl_emit_spec.specs.Activities.{activity_view, remembers_any}
use Rattle.bl_emit_spec.specs.Blocks.{ActivityView, changes_code}
use Rattle.bl_machine.specs.declared.machine.Activity.{Activity as InMachine}
use Rattle.bl_machine_pass.specs.Registers.{Registers, after_rule, all_changed}
use Rattle.bl_machine_pass.specs.Transitions.{Transition}
use Rattle.bl_machine_pass_laws_execution.specs.Frames.{Frames}
use Rattle.bl_emit_spec_laws.specs.Calls.Built.{Activities, activity_at, rank_by, site_at}
use Rattle.bl_emit_spec_laws.specs.Calls.Laws.{HasShownRule, Midway, PartSimulates, PassKeepsFrame, shown_rule}
use Rattle.bl_emit_spec_laws.specs.Calls.Invariant.{PassRepresents}
use Rattle.bl_emit_spec_laws.specs.Registers.Laws.{RegistersWithin, ends_body}
use Rattle.bl_emit_spec_laws.specs.Within.{AllStayWithin}
use Rattle.bl_emit_spec_laws_nodes.specs.Points.Laws.{ChangesSimulateInPass, ResultTold, is_return_node}
use Rattle.bl_emit_spec_laws_nodes.specs.Points.Points.{BodiesEnd, PointsStand}
use Rattle.bl_emit_spec_laws_nodes.proofs.OnPoints.Shown.{ends_true}
use Rattle.bl_emit_spec_laws_nodes.proofs.OnPoints.Silent.{over_after}
use Rattle.bl_emit_acts_laws_simulation.proofs.Begun.{or_other}

module _ (stand : ChangesSimulateInPass) (stay : AllStayWithin) (structs : List StructDef) (units : List UnitDef) (entry : ℕ)
    (end : BodiesEnd structs units entry) (machine : List InMachine) (activities : Activities) (i : ℕ) (unit : UnitDef) (scope : Scope) (frames : Frames)
    (store : Store) (copies : List Value) (r : Registers) (rule : Transition) (here : Memory) (points : PointsStand structs units entry activities)
    (midway : Midway structs units entry machine activities i unit scope frames store copies r here)
    (there : HasShownRule (setting_of structs units entry) activities i unit rule)
  where
    abbrev w : Setting
    w = setting_of structs units entry

    abbrev view : ActivityView
    view = activity_view (activity_at w activities i)

    abbrev number : Node → ℕ
    number = rank_by w activities i

    abbrev Keeping : Memory → Memory → Type 0
    Keeping = PassKeepsFrame (site_at w activities i) unit (remembers_any (activity_at w activities i)) scope

    -- one after the other
    pub keeping : (a b c : Memory) → Keeping a b → Keeping b c → Keeping a c
    keeping a b c one two root way older outside = two root way older outside ∙ one root way older outside

    pub changes_behind : (frames' : Frames) (left : Store) (after : Memory) → is_return_node rule.node ≡ false → Keeping here after →
        PassRepresents w activities i unit scope frames' left copies r after →
        PartSimulates w activities i unit scope frames' left copies (all_changed number rule.on_true r) here
        (block_c (changes_code view rule.on_true) scope after)
    changes_behind frames' left after no_return kept stands =
        let told : ResultTold unit i scope left (all_changed number rule.on_true r) after =
        λ value over one is. stands.result value
        (or_other r.over (list_any ends_body rule.on_true) (over_after number rule.on_true r over)
        (false_from_ne_true (list_any ends_body rule.on_true)
        (λ ending. true_not_false
        (sym (ends_true activities units (end activities midway.compiled.well_typed) i unit w rule there midway.function.is_there midway.function.active one
        ending) ∙ no_return))))
        one is in
        let changed = stand structs units entry machine activities i unit scope frames' left copies r after rule.on_true midway.compiled midway.function
        midway.is_there points.remembering stands (points.own.on_true i unit rule midway.is_there there) told in record {
          ends = changed.ends;
          stands = changed.stands;
          kept = keeping here after _ kept changed.kept;
        }

    -- no counter comes to hold more than its greatest value
    pub changes_within : RegistersWithin (activity_at w activities i).sizes (after_rule number rule true r)
    changes_within =
        subst (λ (shown : Transition). RegistersWithin (activity_at w activities i).sizes (after_rule number shown true r)) (sym there.is) (by there.last)
      where
        by : (last : Bool) → RegistersWithin (activity_at w activities i).sizes (after_rule number (shown_rule last there.rule) true r)
        by true =
            (stay structs units entry machine activities).changes i unit there.rule true r midway.compiled midway.is_there there.there midway.within
        by false = midway.within
