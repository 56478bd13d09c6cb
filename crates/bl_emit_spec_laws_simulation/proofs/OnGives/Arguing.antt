-- The arguments of a `run` of an instance fit the activity that it calls, and none overlap.
use Rattle.std.proofs.Common.{◌≡◌, ℕ, ◌<◌, arith, Bool, true, ◌&&◌, List, []}
use Rattle.std.proofs.Common.{◌∷◌, Contains, map, take, Some, sym, ◌∙◌, subst}
use Rattle.std.proofs.lemmas.Option.{same_Some}
use Rattle.std.specs.Prelude.{slice_get}
use Rattle.bl_tree.proofs.Basics.{and_first, and_second, both_empty, index_of}
use Rattle.bl_tree.specs.declared.place.Place.{Place}
use Rattle.bl_tree.specs.declared.rule.Rule.TheVariants as rule
use Rattle.bl_tree.specs.declared.tree.StructDef.{StructDef}
use Rattle.bl_tree.specs.declared.tree.Unit.{Unit as UnitDef}
use Rattle.bl_tree.specs.Program.{IsWellTyped}
use Rattle.bl_tree.specs.Reduce.{all_of}
use Rattle.bl_tree.specs.Typing.{TypingContext, arguments_fit, inputs_of, is_outlet, outputs_of, site_of, type_of, type_of_path, types_match}
use Rattle.bl_effects.specs.Rules.{Passes, marked_inputs, marked_path, outputs_aliased, target_aliased}
use Rattle.bl_graph_nodes.specs.Nodes.{Arguments, EnterAt, nodes_in}
use Rattle.bl_graph_nodes.specs.Plain.{Label, plain_body}
use Rattle.bl_ctree.specs.Instances.{Setting, callee_of, setting_of, unit_at}
use Rattle.bl_ctree_laws_confluence.specs.Deeds.Origins.{InstancesHaveCallers}
use Rattle.bl_ctree_laws_confluence.proofs.OnDeeds.Activities.{all_at}
use Rattle.bl_ctree_laws_typing.proofs.OnViews.Running.{body_fits}
use Rattle.bl_machine_pass_laws_execution.proofs.OnFresh.Naming.{BeginsNamed, body_named}
use Rattle.bl_emit_spec_laws.specs.Calls.Built.{unit_number}
use Rattle.bl_emit_spec_laws_simulation.proofs.OnGives.Running.{NodeFits, RunFits, body_nodes}
use Rattle.bl_eval.proofs.UnitFits.{unit_at as unit_stands_at}
use Rattle.bl_ctree_laws_confluence.proofs.OnDeeds.Activities.{taken}
use Rattle.bl_emit_spec_laws.proofs.OnActivities.Nested.{unit_there}
use Rattle.bl_emit_spec_laws_nodes.proofs.OnFitting.Whole.{none_overlap}

-- the arguments of a `run` of an instance of the unit at the position k, which calls one of the unit `other`
pub record RunArgues (structs : List StructDef) (units : List UnitDef) (k : ℕ) (unit : UnitDef) (arguments : Arguments) (other : UnitDef) : Type 0 where
  pub inputs : types_match (map (type_of (site_of structs (take k units) unit)) arguments.inputs) (inputs_of other) ≡ true
  pub outputs : types_match (map (type_of_path (site_of structs (take k units) unit)) arguments.outputs) (outputs_of other) ≡ true
  pub outlets : all_of (map (is_outlet (site_of structs (take k units) unit)) arguments.outputs) ≡ true
  pub alone : outputs_aliased (marked_inputs arguments.inputs) [] (map marked_path arguments.outputs) ≡ []

pub run_argues : (structs : List StructDef) (units : List UnitDef) (entry : ℕ) (callers : InstancesHaveCallers) → IsWellTyped structs units entry →
    Passes units → (i : ℕ) (unit : UnitDef) → unit_at (setting_of structs units entry) i ≡ Some unit →
    (l : Label) (at : Place) (arguments : Arguments)
    (j : ℕ) (other : UnitDef) → Contains (nodes_in (plain_body unit.body)) (EnterAt l at arguments) →
    callee_of (setting_of structs units entry) i at ≡ Some j → unit_at (setting_of structs units entry) j ≡ Some other →
    RunArgues structs units (unit_number (setting_of structs units entry) i) unit arguments other
run_argues structs units entry callers keeps passes i unit is l at arguments j other node called of =
    let w : Setting = setting_of structs units entry in
    let k : ℕ = unit_number w i in
    let there : slice_get units k ≡ Some unit = unit_there w i unit is in
    let site : TypingContext = site_of structs (take k units) unit in
    let stands = unit_stands_at structs [] units k unit keeps.units_stand there in
    let nodes =
    body_nodes site (BeginsNamed structs units entry keeps i) unit.body (body_fits structs (take k units) unit stands)
    (body_named structs units entry keeps callers i unit is, none_overlap units k unit passes there) in
    let found = index_of (nodes_in (plain_body unit.body)) (EnterAt l at arguments) node in
    let run : RunFits site (BeginsNamed structs units entry keeps i) at arguments =
    all_at (NodeFits site (BeginsNamed structs units entry keeps i)) (nodes_in (plain_body unit.body)) found.0 (EnterAt l at arguments) nodes
    found.1 in
    let same : run.callee ≡ other =
    same_Some run.callee other (sym (taken units k run.named run.callee run.there) ∙ run.holds j other called of) in
    let fitting : arguments_fit site arguments.inputs arguments.outputs other ≡ true =
    subst (λ (callee : UnitDef). arguments_fit site arguments.inputs arguments.outputs callee ≡ true) same run.fitting in
    let ins : Bool = types_match (map (type_of site) arguments.inputs) (inputs_of other) in
    let outs : Bool = types_match (map (type_of_path site) arguments.outputs) (outputs_of other) in
    let outlets : Bool = all_of (map (is_outlet site) arguments.outputs) in
    record {
      inputs = and_first ins (outs && outlets) fitting;
      outputs = and_first outs outlets (and_second ins (outs && outlets) fitting);
      outlets = and_second outs outlets (and_second ins (outs && outlets) fitting);
      alone = (both_empty (target_aliased (map marked_path arguments.outputs) arguments.target)
          (outputs_aliased (marked_inputs arguments.inputs) [] (map marked_path arguments.outputs)) run.alone).1;
    }
