-- Turns and passes by rules leave typed stores typed.
use Rattle.std.proofs.Common.{◌≡◌, ℕ, zero, suc, Bool, true, List, [], ◌∷◌, Contains, map, take, Some}
use Rattle.std.proofs.Common.{sym, subst, arith}
use Rattle.std.specs.Prelude.{slice_get}
use Rattle.bl_tree.specs.declared.place.Place.{Place}
use Rattle.bl_tree.specs.declared.tree.Stmt.{Stmt, out-Stmt}
use Rattle.bl_tree.specs.declared.tree.StmtKind.{out-StmtKind}
use Rattle.bl_tree.specs.declared.tree.StmtKind.TheOpen.{StmtKind-F}
use Rattle.bl_tree.specs.declared.tree.StructDef.{StructDef}
use Rattle.bl_tree.specs.declared.tree.Unit.{Unit as UnitDef}
use Rattle.bl_tree.specs.declared.value.Value.{Value}
use Rattle.bl_tree.specs.Program.{IsWellTyped}
use Rattle.bl_tree.specs.Typing.{TypingContext, fits as is_fitting, inputs_of, site_of, target_fits, type_of, types_match}
use Rattle.bl_tree.proofs.Basics.{one_some}
use Rattle.bl_eval.specs.Values.{values_fit}
use Rattle.bl_graph_nodes.specs.Nodes.{ActAt, Arguments, CheckAt, DepthEndAt, DepthJoinAt, EnterAt, ForkAt, HeadAt, Node, PauseAt, ResumeAt, StartAt}
use Rattle.bl_graph_nodes.specs.Nodes.{SurfaceEndAt, SurfaceJoinAt, TestAt}
use Rattle.bl_graph_nodes.specs.Plain.{Label, plain_body}
use Rattle.bl_ctree.specs.Actions.{Copies, Gives}
use Rattle.bl_ctree.specs.Instances.{Setting, callee_of, setting_of, unit_at}
use Rattle.bl_ctree.specs.Store.{Store, view_at}
use Rattle.bl_ctree_laws.specs.Pending.{deed}
use Rattle.bl_ctree_laws_typing.specs.Fits.{StoreFits}
use Rattle.bl_ctree_laws_confluence.specs.Deeds.Origins.{InstancesHaveCallers}
use Rattle.bl_ctree_laws_confluence.proofs.OnDeeds.Activities.{AllOf}
use Rattle.bl_ctree_laws_typing.specs.Views.{ViewsAreTyped}
use Rattle.bl_ctree_laws_typing.proofs.OnViews.Running.{body_fits}
use Rattle.bl_machine.specs.Uses.{Slots}
use Rattle.bl_machine_laws.specs.Passes.Follows.{DeedYields}
use Rattle.bl_machine_pass.specs.Registers.{Registers}
use Rattle.bl_machine_pass.specs.Transitions.{Transition, rules}
use Rattle.bl_machine_pass_laws_execution.specs.Executes as executes
use Rattle.bl_machine_pass_laws_execution.specs.Executes.{Executes, HasRule, Performs, recopied, recopied_kind}
use Rattle.bl_machine_pass_laws.specs.Turns.Laws.{StaysPlaced}
use Rattle.bl_machine_pass_laws_execution.specs.Frames.{Frames}
use Rattle.bl_machine_pass_laws_execution.proofs.OnFresh.Naming.{BeginsNamed, body_named}
use Rattle.bl_machine_pass_laws_typing.specs.Fits.{PassesKeepTypes, TurnsKeepTypes}
use Rattle.bl_machine_pass_laws_typing.proofs.OnFits.Changing.{one_set}
use Rattle.bl_machine_pass_laws_typing.proofs.OnFits.Doing.{copy_fits, give_fits, point_fits, stands_at}
use Rattle.bl_machine_pass_laws_typing.proofs.OnFits.NodesFit.{NodeFits, RunFits, body_nodes}
use Rattle.bl_eval.proofs.UnitFits.{unit_at as unit_stands_at}
use Rattle.bl_ctree_laws_confluence.proofs.OnDeeds.Activities.{taken}

-- ---- rules of nodes that fit

rule_fits : (P : Node → Type 0) (all : List Transition) (rule : Transition) → AllOf P (map (λ rule. rule.node) all) → Contains all rule → P rule.node
rule_fits P [] rule fit there = let below = there.1 in absurd (omega arith)
rule_fits P (first ∷ all) rule fit (zero, within, is) = subst (λ (x : Transition). P x.node) is fit.0
rule_fits P (first ∷ all) rule fit (suc k, within, is) = rule_fits P all rule fit.1 (k, omega arith, is)

module _ (callers : InstancesHaveCallers) (views : ViewsAreTyped) (placed : StaysPlaced) (structs : List StructDef) (units : List UnitDef)
    (entry : ℕ) (keeps : IsWellTyped structs units entry) where
  abbrev W : Setting
  W = setting_of structs units entry

  -- where the statements of an instance of the unit stand
  abbrev site_at : (i : ℕ) (unit : UnitDef) → unit_at W i ≡ Some unit → TypingContext
  site_at i unit is = site_of structs (take (stands_at structs units entry i unit is).instance.unit units) unit

  abbrev Fitting : (i : ℕ) (unit : UnitDef) → unit_at W i ≡ Some unit → Node → Type 0
  Fitting i unit is = NodeFits (site_at i unit is) (BeginsNamed structs units entry keeps i)

  node_fits : (slots : ℕ → Slots) (i : ℕ) (unit : UnitDef) (is : unit_at W i ≡ Some unit) (rule : Transition) → HasRule slots i unit rule →
      Fitting i unit is rule.node
  node_fits slots i unit is rule has =
      let at = stands_at structs units entry i unit is in
      let fitted = body_fits structs (take at.instance.unit units) unit (unit_stands_at structs [] units at.instance.unit unit
      keeps.units_stand at.of) in
      rule_fits (Fitting i unit is) (rules (slots i) (plain_body unit.body)) rule
      (subst (AllOf (Fitting i unit is)) (sym (placed.nodes (slots i) (plain_body unit.body)))
      (body_nodes (site_at i unit is) (BeginsNamed structs units entry keeps i) unit.body fitted
      (body_named structs units entry keeps callers i unit is))) has

  -- what a `run` of an instance calls is of the unit that it names
  named_is : (i : ℕ) (unit : UnitDef) (is : unit_at W i ≡ Some unit) (at : Place) (arguments : Arguments) (callee : ℕ) (other : UnitDef)
      (run : RunFits (site_at i unit is) (BeginsNamed structs units entry keeps i) at arguments) → callee_of W i at ≡ Some callee →
      unit_at W callee ≡ Some other → run.callee ≡ other
  named_is i unit is at arguments callee other run called of =
      one_some run.callee other (slice_get units run.named)
      (taken units (stands_at structs units entry i unit is).instance.unit run.named run.callee run.there) (run.holds callee other called of)

  copied : (i : ℕ) (unit : UnitDef) (is : unit_at W i ≡ Some unit) (at : Place) (arguments : Arguments) (callee : ℕ) (other : UnitDef)
      (store given : Store) → RunFits (site_at i unit is) (BeginsNamed structs units entry keeps i) at arguments → StoreFits W store →
      callee_of W i at ≡ Some callee → unit_at W callee ≡ Some other →
      DeedYields W (deed i at (Copies callee arguments.inputs)) store true given →
      StoreFits W given
  copied i unit is at arguments callee other store given run fits called of does =
      copy_fits callers views structs units entry keeps i unit is store fits callee other arguments.inputs given of
      (subst (λ (callee : UnitDef). types_match (map (type_of (site_at i unit is)) arguments.inputs) (inputs_of callee) ≡ true)
      (named_is i unit is at arguments callee other run called of) run.inputs) does

  returned : (i : ℕ) (unit : UnitDef) (is : unit_at W i ≡ Some unit) (at : Place) (arguments : Arguments) (callee : ℕ) (other : UnitDef)
      (store left : Store) → RunFits (site_at i unit is) (BeginsNamed structs units entry keeps i) at arguments → StoreFits W store →
      callee_of W i at ≡ Some callee → unit_at W callee ≡ Some other → DeedYields W (deed i at (Gives callee arguments.target)) store true left →
      StoreFits W left
  returned i unit is at arguments callee other store left run fits called of does =
      give_fits callers views structs units entry keeps i unit is store fits callee other arguments.target left of
      (subst (λ (callee : UnitDef). target_fits (site_at i unit is) callee.result arguments.target ≡ true)
      (named_is i unit is at arguments callee other run called of) run.target) does

  -- an act of an instance fits
  act_of_node : (i : ℕ) (unit : UnitDef) (is : unit_at W i ≡ Some unit) (n : Node) → Fitting i unit is n →
      (l : Label) (s : Stmt) → n ≡ ActAt l s →
      is_fitting (site_at i unit is) s ≡ true
  act_of_node i unit is n fit l s same = subst (Fitting i unit is) same fit

  -- ---- copies

  copies_typed : (i : ℕ) (unit : UnitDef) (n : Node) (left : Store) (copies : List Value) → unit_at W i ≡ Some unit → StoreFits W left →
      values_fit structs unit.vars copies ≡ true → values_fit structs unit.vars (recopied W i n left copies) ≡ true
  copies_typed i unit (ActAt l s) left copies is fits all = by (out-StmtKind (out-Stmt s).what)
    where
      by : {A B C D : Type 0} → (layer : StmtKind-F A B C D) →
          values_fit structs unit.vars (recopied_kind layer (view_at W left i).now copies) ≡ true
      by (StmtKind-F.Declare k initial) =
          one_set structs unit.vars (view_at W left i).now copies k (views structs units entry i unit left keeps is fits).now all
      by (StmtKind-F.Assign path e) = all
      by (StmtKind-F.Call f inputs outputs) = all
      by (StmtKind-F.Await e) = all
      by (StmtKind-F.Run target a inputs outputs) = all
      by (StmtKind-F.If arms other) = all
      by (StmtKind-F.Cobegin branches) = all
      by (StmtKind-F.When guard e body) = all
      by (StmtKind-F.Repeat body) = all
      by (StmtKind-F.Until body e) = all
      by (StmtKind-F.While e body) = all
      by (StmtKind-F.Return e) = all
  copies_typed i unit (TestAt l at e) left copies is fits all = all
  copies_typed i unit (PauseAt l at) left copies is fits all = all
  copies_typed i unit (EnterAt l at arguments) left copies is fits all = all
  copies_typed i unit (ResumeAt l at arguments) left copies is fits all = all
  copies_typed i unit (HeadAt l at) left copies is fits all = all
  copies_typed i unit (StartAt l at) left copies is fits all = all
  copies_typed i unit (CheckAt l at e) left copies is fits all = all
  copies_typed i unit (SurfaceEndAt l at) left copies is fits all = all
  copies_typed i unit (DepthEndAt l at) left copies is fits all = all
  copies_typed i unit (ForkAt l at) left copies is fits all = all
  copies_typed i unit (SurfaceJoinAt l at) left copies is fits all = all
  copies_typed i unit (DepthJoinAt l at) left copies is fits all = all

  -- ---- passes

  module _ (rank : ℕ → Node → ℕ) (slots : ℕ → Slots) (clear : ℕ → Frames → Frames) where
    -- the unit of an instance whose nodes have turns
    unit_of_pass : {i k : ℕ} {frames : Frames} {store : Store} {copies : List Value} {r : Registers} {frames' : Frames} {left : Store}
        {r' : Registers} → Executes W rank slots clear i k frames store copies r frames' left r' → (unit : UnitDef) × (unit_at W i ≡ Some unit)
    unit_of_pass (executes.ends {unit = unit} is all) = (unit, is)
    unit_of_pass (executes.skips {unit = unit} is none rest) = (unit, is)
    unit_of_pass (executes.acts {unit = unit} is rule has numbered due alone sees performs rest) = (unit, is)

    mutual
      pass_fits : {i k : ℕ} {frames : Frames} {store : Store} {copies : List Value} {r : Registers} {frames' : Frames} {left : Store}
          {r' : Registers} → Executes W rank slots clear i k frames store copies r frames' left r' → StoreFits W store → StoreFits W left
      pass_fits (executes.ends is all) fits = fits
      pass_fits (executes.skips is none rest) fits = pass_fits rest fits
      pass_fits (executes.acts {i = i} {unit = unit} is rule has numbered due alone sees performs rest) fits =
          pass_fits rest (turn_fits performs unit is (node_fits slots i unit is rule has) fits)

      turn_fits : {i : ℕ} {n : Node} {frames : Frames} {store : Store} {answer : Bool} {frames' : Frames} {left : Store} →
          Performs W rank slots clear i n frames store answer frames' left → (unit : UnitDef) (is : unit_at W i ≡ Some unit) →
          Fitting i unit is n →
          StoreFits W store → StoreFits W left
      turn_fits (executes.does {i = i} {n = n} {store = store} {answer = answer} {left = left} point does) unit is fit fits =
          point_fits callers views structs units entry keeps i unit is store fits n answer left point (act_of_node i unit is n fit) does
      turn_fits
          (executes.enters {i = i} {at = at} {arguments = arguments} {store = store} {given = given} {callee = callee} {unit = other}
          called of does pass over)
          unit is fit fits =
          pass_fits pass (copied i unit is at arguments callee other store given fit fits called of does)
      turn_fits
          (executes.resumes {i = i} {at = at} {arguments = arguments} {store = store} {given = given} {callee = callee} called runs does pass over)
          unit is fit fits =
          let of = unit_of_pass pass in
          pass_fits pass (copied i unit is at arguments callee of.0 store given fit fits called of.1 does)
      turn_fits
          (executes.returns {i = i} {at = at} {arguments = arguments} {store = store} {given = given} {ended = ended} {left = left} {callee = callee}
          called runs does pass over gives)
          unit is fit fits =
          let of = unit_of_pass pass in
          returned i unit is at arguments callee of.0 ended left fit
          (pass_fits pass (copied i unit is at arguments callee of.0 store given fit fits called of.1 does)) called of.1 gives

  pub turns_keep : TurnsKeepTypes structs units entry
  turns_keep = record {
    performs = λ rank slots clear i unit rule frames store answer frames' left is has fits performs.
        turn_fits rank slots clear performs unit is (node_fits slots i unit is rule has) fits;
    executes = λ rank slots clear i k frames store copies r frames' left r' fits pass.
        pass_fits rank slots clear pass fits;
    copies = copies_typed;
  }

pub passes_keep : InstancesHaveCallers → ViewsAreTyped → StaysPlaced → PassesKeepTypes
passes_keep callers views placed structs units entry keeps = turns_keep callers views placed structs units entry keeps
