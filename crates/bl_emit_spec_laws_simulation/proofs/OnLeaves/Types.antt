-- The types of a `run`'s outputs, and that they may be written.
use Rattle.std.proofs.Common.{◌≡◌, ℕ, zero, suc, ◌<◌, arith, Bool, true, false, List, [], ◌∷◌, map, take, Contains}
use Rattle.std.proofs.Common.{Option, Some, None, refl, sym, ap, ◌∙◌, subst}
use Rattle.std.specs.Prelude.{is_some, option_and_then, slice_get, if◌then◌else◌}
use Rattle.bl_tree.proofs.Basics.{and_first, and_second, one_some}
use Rattle.bl_tree.specs.declared.place.Place.{Place}
use Rattle.bl_tree.specs.declared.static_path.Static.{Static}
use Rattle.bl_tree.specs.declared.tree.Path.{Path, out-Path}
use Rattle.bl_tree.specs.declared.tree.Role.{Role}
use Rattle.bl_tree.specs.declared.tree.Role.TheVariants.{Fixed, Input, Output, Variable}
use Rattle.bl_tree.specs.declared.tree.StructDef.{StructDef}
use Rattle.bl_tree.specs.declared.tree.Ty.{Ty}
use Rattle.bl_tree.specs.declared.tree.Unit.{Unit as UnitDef}
use Rattle.bl_tree.specs.declared.tree.Var.{Var}
use Rattle.bl_tree.specs.Program.{IsWellTyped, is_input}
use Rattle.bl_tree.specs.Reduce.{all_of}
use Rattle.bl_tree.specs.Static.{static_of}
use Rattle.bl_tree.specs.Typing.{TypingContext, is_assignable, is_outlet, is_plain, may_change, outputs_of, site_of, type_of_path, types_match, var_at}
use Rattle.bl_tree.specs.Types.{same_type}
use Rattle.bl_graph_nodes.specs.Nodes.{Arguments, EnterAt, Node, nodes_in}
use Rattle.bl_graph_nodes.specs.Plain.{Label, plain_body}
use Rattle.bl_ctree.specs.declared.instance.Instance.{Instance}
use Rattle.bl_ctree.specs.declared.instance.Origin.{Origin}
use Rattle.bl_ctree.specs.Instances.{Setting, callee_of, setting_of, unit_at}
use Rattle.bl_ctree_laws_confluence.specs.Apart.Outputs.{RunsWith}
use Rattle.bl_ctree_laws_confluence.specs.Apart.Owned.{SomeIn}
use Rattle.bl_ctree_laws_confluence.specs.Deeds.Origins.{InstancesHaveCallers}
use Rattle.bl_ctree_laws_typing.proofs.OnViews.Along.{along}
use Rattle.bl_ctree_laws_typing.proofs.OnViews.Running.{OutputsTyped, body_fits, outputs_typed, typed_at}
use Rattle.bl_machine.specs.Uses.{Slots}
use Rattle.bl_machine_pass_laws.specs.Turns.Laws.{StaysPlaced}
use Rattle.bl_machine_pass_laws_execution.proofs.OnFresh.Naming.{BeginsNamed, body_named}
use Rattle.bl_machine_pass_laws_execution.specs.Kept.Outputs.{IsRunNode, OutputsLeadIn, RulesRun}
use Rattle.bl_machine_pass_laws_typing.proofs.OnFits.NodesFit.{NodeFits, RunFits, body_nodes}
use Rattle.bl_emit_spec_laws_nodes.proofs.OnSeen.{among}
use Rattle.bl_emit_spec_laws_simulation.proofs.OnLeaves.Numbers.{rule_of}
use Rattle.bl_eval.proofs.UnitFits.{unit_at as unit_stands_at}
use Rattle.bl_ctree_laws_confluence.proofs.OnDeeds.Activities.{taken}
use Rattle.bl_ctree_laws_confluence.proofs.OnApart.Told.{static_at}

-- ---- roots that may be written

open_by : (role : Role) → may_change role ≡ true → is_input role ≡ false
open_by Input h = absurd (cc)
open_by Output h = refl
open_by Variable h = refl
open_by Fixed h = absurd (cc)

assignable_by : (found : Option Var) (var : Var) → found ≡ Some var →
    is_some (option_and_then (λ (var : Var). if may_change var.role then Some var else None) found) ≡ true → is_input var.role ≡ false
assignable_by None var is h = absurd (cc)
assignable_by (Some one) var is h =
    let same : one ≡ var = one_some one var (Some one) refl is in
    subst (λ (var : Var). is_input var.role ≡ false) same (by (may_change one.role) refl h)
  where
    by : (b : Bool) → may_change one.role ≡ b → is_some (if b then Some one else None) ≡ true → is_input one.role ≡ false
    by true is h = open_by one.role is
    by false is h = absurd (cc)

one_outlet : (site : TypingContext) (paths : List Path) (k : ℕ) (path : Path) → all_of (map (is_outlet site) paths) ≡ true →
    slice_get paths k ≡ Some path → is_outlet site path ≡ true
one_outlet site [] k path all there = absurd (cc)
one_outlet site (p ∷ paths) zero path all there =
    let same : p ≡ path = cc in
    ap (is_outlet site) (sym same) ∙ and_first (is_outlet site p) (all_of (map (is_outlet site) paths)) all
one_outlet site (p ∷ paths) (suc k) path all there =
    one_outlet site paths k path (and_second (is_outlet site p) (all_of (map (is_outlet site) paths)) all) there

-- ---- outputs

-- an output of a `run`: it leads by fields from a variable that may be written to a part of the type
pub record OutputOf (site : TypingContext) (path : Path) (ty : Ty) : Type 0 where
  pub var : Var
  pub is_there : var_at site (static_of path).root ≡ Some var
  pub writable : is_input var.role ≡ false
  pub leads : along site.structs (static_of path).fields var.ty ≡ Some ty

module _ (callers : InstancesHaveCallers) (run : RulesRun) (placed : StaysPlaced) (structs : List StructDef) (units : List UnitDef)
    (entry : ℕ) (keeps : IsWellTyped structs units entry) (lead : OutputsLeadIn structs units entry) (i j k : ℕ) (unit other : UnitDef) (l : Label)
    (at : Place) (arguments : Arguments) (is_there : unit_at (setting_of structs units entry) i ≡ Some unit)
    (own : slice_get units k ≡ Some unit) (node : Contains (nodes_in (plain_body unit.body)) (EnterAt l at arguments))
    (called : callee_of (setting_of structs units entry) i at ≡ Some j) (callee : unit_at (setting_of structs units entry) j ≡ Some other)
    (slots : ℕ → Slots) where
  abbrev W : Setting
  W = setting_of structs units entry

  abbrev site : TypingContext
  site = site_of structs (take k units) unit

  -- such a `run` stands in the body
  pub stands : SomeIn (RunsWith at arguments.outputs) (plain_body unit.body)
  stands =
      let found = rule_of placed (slots i) (plain_body unit.body) (EnterAt l at arguments) node in
      run slots i unit found.rule at arguments.outputs found.there
      (subst (λ (n : Node). IsRunNode n at arguments.outputs) (sym found.of_node) (refl, refl))

  -- the callee was begun with its outputs
  pub begun : (instance : Instance) (origin : Origin) → slice_get W.instances j ≡ Some instance → instance.origin ≡ Some origin →
      origin.outputs ≡ map static_of arguments.outputs
  begun instance origin there began = lead.begun i j at arguments.outputs unit instance origin is_there stands called there began

  -- the `run` fits
  fitted : RunFits site (BeginsNamed structs units entry keeps i) at arguments
  fitted =
      among (NodeFits site (BeginsNamed structs units entry keeps i)) (nodes_in (plain_body unit.body)) (EnterAt l at arguments)
      (body_nodes site (BeginsNamed structs units entry keeps i) unit.body
      (body_fits structs (take k units) unit (unit_stands_at structs [] units k unit keeps.units_stand own))
      (body_named structs units entry keeps callers i unit is_there))
      node

  callee_is : fitted.callee ≡ other
  callee_is =
      one_some fitted.callee other (slice_get units fitted.named) (taken units k fitted.named fitted.callee fitted.there)
      (fitted.holds j other called callee)

  matched : types_match (map (type_of_path site) arguments.outputs) (outputs_of other) ≡ true
  matched =
      subst (λ (u : UnitDef). types_match (map (type_of_path site) arguments.outputs) (outputs_of u) ≡ true) callee_is fitted.outputs

  typed_outputs : OutputsTyped structs unit.vars (map static_of arguments.outputs) (outputs_of other)
  typed_outputs = outputs_typed site arguments.outputs (outputs_of other) matched fitted.outlets

  get_mapped : (paths : List Path) (o : ℕ) (path : Path) → slice_get paths o ≡ Some path →
      slice_get (map static_of paths) o ≡ Some (static_of path)
  get_mapped [] o path is = absurd (cc)
  get_mapped (p ∷ paths) zero path is = let same : p ≡ path = cc in ap (λ p. Some (static_of p)) same
  get_mapped (p ∷ paths) (suc o) path is = get_mapped paths o path is

  -- each output is one of its output's type
  pub output_of : (o : ℕ) (path : Path) (var : Var) → slice_get arguments.outputs o ≡ Some path → slice_get (outputs_of other) o ≡ Some var →
      OutputOf site path var.ty
  output_of o path var there of =
      let typed = typed_at structs unit.vars (map static_of arguments.outputs) (outputs_of other) o (static_of path) var typed_outputs
      (get_mapped arguments.outputs o path there) of in
      let outlet = one_outlet site arguments.outputs o path fitted.outlets there in
      let root : (static_of path).root ≡ (out-Path path).root = static_at path in
      record {
        var = typed.var;
        is_there = typed.root;
        writable = assignable_by (var_at site (out-Path path).root) typed.var (ap (var_at site) (sym root) ∙ typed.root)
            (and_second (is_plain path) (is_assignable site path) outlet);
        leads = typed.leads;
      }

  -- there is such an output of the callee for each of the `run`
  more_outputs : (paths : List Static) (vars : List Var) (o : ℕ) (path : Static) → OutputsTyped structs unit.vars paths vars →
      slice_get paths o ≡ Some path → (var : Var) × (slice_get vars o ≡ Some var)
  more_outputs [] vars o path typed is = absurd (cc)
  more_outputs (p ∷ paths) [] o path typed is = absurd typed
  more_outputs (p ∷ paths) (v ∷ vars) zero path typed is = (v, refl)
  more_outputs (p ∷ paths) (v ∷ vars) (suc o) path typed is = more_outputs paths vars o path typed.1 is

  pub output_there : (o : ℕ) (path : Path) → slice_get arguments.outputs o ≡ Some path → (var : Var) × (slice_get (outputs_of other) o ≡ Some var)
  output_there o path there =
      more_outputs (map static_of arguments.outputs) (outputs_of other) o (static_of path) typed_outputs (get_mapped arguments.outputs o path there)

  same_many : (paths : List Path) (vars : List Var) (o : ℕ) (var : Var) → types_match (map (type_of_path site) paths) vars ≡ true →
      slice_get vars o ≡ Some var → (path : Path) × (slice_get paths o ≡ Some path)
  same_many [] [] o var all is = absurd (cc)
  same_many [] (v ∷ vars) o var all is = absurd (cc)
  same_many (p ∷ paths) [] o var all is = absurd (cc)
  same_many (p ∷ paths) (v ∷ vars) zero var all is = (p, refl)
  same_many (p ∷ paths) (v ∷ vars) (suc o) var all is = same_many paths vars o var (rest (type_of_path site p) all) is
    where
      rest : (typed : Option Ty) → types_match (typed ∷ map (type_of_path site) paths) (v ∷ vars) ≡ true →
          types_match (map (type_of_path site) paths) vars ≡ true
      rest None all = absurd (cc)
      rest (Some ty) all = and_second (same_type ty v.ty) (types_match (map (type_of_path site) paths) vars) all

  -- and one of the `run` for each of the callee
  pub path_there : (o : ℕ) (var : Var) → slice_get (outputs_of other) o ≡ Some var → (path : Path) × (slice_get arguments.outputs o ≡ Some path)
  path_there o var is = same_many arguments.outputs (outputs_of other) o var matched is
