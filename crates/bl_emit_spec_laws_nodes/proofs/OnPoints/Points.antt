-- The blocks of all points, each by what its node is.
use Rattle.std.proofs.Common.{◌≡◌, ℕ, Bool, true, false, ◌&&◌, ◌||◌, List, take, refl}
use Rattle.bl_tree.proofs.Basics.{and_second}
use Rattle.bl_tree.specs.declared.tree.Stmt.{out-Stmt}
use Rattle.bl_tree.specs.declared.tree.StmtKind.{out-StmtKind}
use Rattle.bl_tree.specs.declared.tree.StructDef.{StructDef}
use Rattle.bl_tree.specs.declared.tree.Unit.{Unit as UnitDef}
use Rattle.bl_tree.specs.declared.value.Value.{Value}
use Rattle.bl_tree.specs.Returns.{is_return_kind}
use Rattle.bl_tree.specs.Typing.{TypingContext, fits, site_of}
use Rattle.bl_graph_nodes.specs.Nodes.{ActAt, CheckAt, DepthEndAt, DepthJoinAt, EnterAt, ForkAt, HeadAt, Node, PauseAt}
use Rattle.bl_graph_nodes.specs.Nodes.{ResumeAt, StartAt, SurfaceEndAt, SurfaceJoinAt, TestAt}
use Rattle.bl_graph_nodes.specs.Plain.{plain_body}
use Rattle.bl_ctext_semantics.specs.Course.{traps}
use Rattle.bl_ctext_semantics.specs.Meaning.{Scope}
use Rattle.bl_ctext_semantics.specs.Memory.{Memory}
use Rattle.bl_ctree.specs.Instances.{Setting, setting_of}
use Rattle.bl_ctree.specs.Store.{Store}
use Rattle.bl_emit_acts_laws_simulation.specs.Acts.{is_act}
use Rattle.bl_machine.specs.declared.machine.Activity.{Activity as InMachine}
use Rattle.bl_machine_pass.specs.Registers.{Registers, after_rule}
use Rattle.bl_machine_pass.specs.Transitions.{Transition}
use Rattle.bl_machine_pass_laws_execution.specs.Executes.{CopiesMatch, IsPoint, NodeTraps, Performs, recopied}
use Rattle.bl_machine_pass_laws_execution.specs.Frames.{Frames}
use Rattle.bl_emit_spec_laws.specs.Calls.Built.{Activities, cleared, rank_by, slots_by, unit_number}
use Rattle.bl_emit_spec_laws.specs.Calls.Laws.{BlocksSimulate, CalledAt, CompilationContext, HasShownRule, Midway, PartSimulates, block_done}
use Rattle.bl_emit_spec_laws_nodes.specs.Points.Acts.{ActNodesSimulate, IsActNode, ReturnNodesSimulate}
use Rattle.bl_emit_spec_laws_nodes.specs.Points.Laws.{GuardsSimulate, IsSilent, SilentNodesSimulate, is_return_node}
use Rattle.bl_emit_spec_laws_nodes.specs.Points.Nodes.{IsTest, TestNodesSimulate, fits_there}
use Rattle.bl_emit_spec_laws_nodes.specs.Points.Points.{BodiesEnd, PointsSimulate, PointsStand}

-- what a point is
pub data Kind (n : Node) : Type 0 where
  rests : IsSilent n → Kind n
  tests : IsTest n → Kind n
  acts_there : IsActNode n → Kind n
  returns_there : is_return_node n ≡ true → Kind n

kind_of : (site : TypingContext) (n : Node) → IsPoint n → fits_there site n ≡ true → Kind n
kind_of site (ActAt l s) point fitted =
    let layer = out-StmtKind (out-Stmt s).what in
    by (is_act layer) refl (and_second (fits site s) (is_act layer || is_return_kind layer) fitted)
  where
    by : (act : Bool) → is_act (out-StmtKind (out-Stmt s).what) ≡ act → (act || is_return_kind (out-StmtKind (out-Stmt s).what)) ≡ true →
        Kind (ActAt l s)
    by true is h = acts_there is
    by false is h = returns_there h
kind_of site (TestAt l at e) point fitted = tests point
kind_of site (CheckAt l at e) point fitted = tests point
kind_of site (PauseAt l at) point fitted = rests point
kind_of site (HeadAt l at) point fitted = rests point
kind_of site (StartAt l at) point fitted = rests point
kind_of site (SurfaceEndAt l at) point fitted = rests point
kind_of site (DepthEndAt l at) point fitted = rests point
kind_of site (ForkAt l at) point fitted = rests point
kind_of site (SurfaceJoinAt l at) point fitted = rests point
kind_of site (DepthJoinAt l at) point fitted = rests point
kind_of site (EnterAt l at arguments) point fitted = absurd point
kind_of site (ResumeAt l at arguments) point fitted = absurd point

module _ (silent : SilentNodesSimulate) (structs : List StructDef) (units : List UnitDef) (entry : ℕ) (test : TestNodesSimulate structs units entry)
    (act : ActNodesSimulate structs units entry) (return_done : ReturnNodesSimulate structs units entry) (end : BodiesEnd structs units entry)
    (machine : List InMachine) (activities : Activities) where
  abbrev Of : (Node → Type 0) → Type 0
  Of These = BlocksSimulate structs units entry machine activities These

  module _ (compiled : CompilationContext structs units entry machine activities) (p : PointsStand structs units entry activities) where
    pub silents : Of IsSilent
    silents = silent structs units entry machine activities p.own (end activities compiled.well_typed) p.remembering

    pub all_tests : Of IsTest
    all_tests = test machine activities compiled.well_typed p.own (end activities compiled.well_typed) p.remembering p.nodes p.views p.agree

    pub all_acts : Of IsActNode
    all_acts =
        act machine activities compiled.well_typed p.own (end activities compiled.well_typed) p.remembering p.nodes p.views p.agree p.apart p.seen

    pub all_returns : Of (λ n. is_return_node n ≡ true)
    all_returns = return_done machine activities compiled.well_typed p.own p.remembering p.nodes p.views p.agree

  module _ (stands : CompilationContext structs units entry machine activities → PointsStand structs units entry activities) (i : ℕ) (unit : UnitDef)
      (scope : Scope) (frames : Frames) (store : Store) (copies : List Value) (r : Registers) (rule : Transition) (u : ℕ) (here : Memory)
      (midway : Midway structs units entry machine activities i unit scope frames store copies r here)
      (there : HasShownRule (setting_of structs units entry) activities i unit rule) (called : CalledAt (plain_body unit.body) rule.node u)
      (sees : CopiesMatch (setting_of structs units entry) i rule.node store copies) where
    abbrev w : Setting
    w = setting_of structs units entry

    abbrev p : PointsStand structs units entry activities
    p = stands midway.compiled

    pub kind_there : IsPoint rule.node → Kind rule.node
    kind_there point =
        kind_of (site_of structs (take (unit_number w i) units) unit) rule.node point
        (p.nodes.fitting (unit_number w i) called.position unit rule.node midway.function.is_there called.node)

    pub acts_by : (answer : Bool) (frames' : Frames) (left : Store) →
        Performs w (rank_by w activities) (slots_by w activities) (cleared w) i rule.node frames store answer frames' left → Kind rule.node →
        PartSimulates w activities i unit scope frames' left (recopied w i rule.node left copies)
        (after_rule (rank_by w activities i) rule answer r) here (block_done w activities i u rule scope here)
    acts_by answer frames' left performs (rests h) =
        (silents midway.compiled p).acts i unit scope frames store copies r rule u answer frames' left here midway there h called sees performs
    acts_by answer frames' left performs (tests h) =
        (all_tests midway.compiled p).acts i unit scope frames store copies r rule u answer frames' left here midway there h called sees
        performs
    acts_by answer frames' left performs (acts_there h) =
        (all_acts midway.compiled p).acts i unit scope frames store copies r rule u answer frames' left here midway there h called sees performs
    acts_by answer frames' left performs (returns_there h) =
        (all_returns midway.compiled p).acts i unit scope frames store copies r rule u answer frames' left here midway there h called sees
        performs

    pub stops_by : NodeTraps w (rank_by w activities) (slots_by w activities) (cleared w) i rule.node frames store → Kind rule.node →
        (block_done w activities i u rule scope here).end ≡ traps
    stops_by stops (rests h) =
        (silents midway.compiled p).stops i unit scope frames store copies r rule u here midway there h called sees stops
    stops_by stops (tests h) =
        (all_tests midway.compiled p).stops i unit scope frames store copies r rule u here midway there h called sees stops
    stops_by stops (acts_there h) =
        (all_acts midway.compiled p).stops i unit scope frames store copies r rule u here midway there h called sees stops
    stops_by stops (returns_there h) =
        (all_returns midway.compiled p).stops i unit scope frames store copies r rule u here midway there h called sees stops

pub points_simulate : SilentNodesSimulate → GuardsSimulate → (structs : List StructDef) (units : List UnitDef) (entry : ℕ) → TestNodesSimulate structs units entry →
    ActNodesSimulate structs units entry → ReturnNodesSimulate structs units entry → BodiesEnd structs units entry → PointsSimulate structs units entry
points_simulate silent choose structs units entry test act return_done end machine activities stands = (
  record {
    acts = λ i unit scope frames store copies r rule u answer frames' left here midway there point called sees performs.
        acts_by silent structs units entry test act return_done end machine activities stands i unit scope frames store copies r rule u here
        midway there
        called sees answer frames' left performs
        (kind_there silent structs units entry test act return_done end machine activities stands i unit scope frames store copies r rule u
        here midway
        there called sees point);
    stops = λ i unit scope frames store copies r rule u here midway there point called sees stops.
        stops_by silent structs units entry test act return_done end machine activities stands i unit scope frames store copies r rule u here
        midway there
        called sees stops
        (kind_there silent structs units entry test act return_done end machine activities stands i unit scope frames store copies r rule u
        here midway
        there called sees point);
  },
  record {
    enters = λ i unit scope frames store copies r before rule code here midway there first left due.
        (choose structs units entry machine activities (stands midway.compiled).own).enters i unit scope frames store copies r before rule code here midway
        there first left due;
    skips = λ i unit scope frames store copies r before rule code here midway there first left due.
        (choose structs units entry machine activities (stands midway.compiled).own).skips i unit scope frames store copies r before rule code here midway
        there first left due;
  },
)
