-- The laws of the parts of a pass together.
use Rattle.std.proofs.Common.{ℕ, List}
use Rattle.bl_tree.specs.declared.tree.StructDef.{StructDef}
use Rattle.bl_tree.specs.declared.tree.Unit.{Unit as UnitDef}
use Rattle.bl_limits.specs.Rules.{Passes as KeepsLimits}
use Rattle.bl_ctree.specs.Instances.{Setting, setting_of}
use Rattle.bl_ctree_laws_typing.specs.Views.{ViewsAreTyped}
use Rattle.bl_machine.specs.declared.machine.Activity.{Activity as InMachine}
use Rattle.bl_emit_functions_laws_simulation.specs.Units.{FunctionsSimulate}
use Rattle.bl_emit_spec_laws.specs.Activities.{AllActivitiesSimulate}
use Rattle.bl_emit_spec_laws_files.specs.Begins.{FunctionsBeginWhere, PointersFollow}
use Rattle.bl_emit_spec_laws_nodes.specs.Calling.{RunsSimulate}
use Rattle.bl_emit_spec_laws.specs.Calls.Built.{Activities}
use Rattle.bl_emit_spec_laws.specs.Calls.Laws.{ActivitiesSimulate, CompilationContext}
use Rattle.bl_emit_spec_laws_simulation.specs.Simulation.{CompiledSimulate}
use Rattle.bl_emit_spec_laws_simulation.specs.Compiled.{RulesAreOwn}
use Rattle.bl_emit_spec_laws_nodes.specs.Copied.{NodesCopied, RunsCopied}
use Rattle.bl_emit_spec_laws_files.specs.Counters.{AllSuffice}
use Rattle.bl_emit_spec_laws.specs.Fits.{AllTurnsFit}
use Rattle.bl_emit_spec_laws_nodes.specs.Fitting.{CallsApart, NodesFit}
use Rattle.bl_emit_spec_laws_simulation.specs.Establishes.{AllRunsEstablish}
use Rattle.bl_emit_spec_laws_simulation.specs.Leaves.{AllRunsLeave}
use Rattle.bl_emit_spec_laws.specs.Passes.{BlocksPass}
use Rattle.bl_emit_spec_laws.specs.Placed.{BlocksArePlaced}
use Rattle.bl_emit_spec_laws_nodes.specs.Points.Nodes.{PrevsAgree}
use Rattle.bl_emit_spec_laws_nodes.specs.Points.Points.{PointsSimulate, PointsStand}
use Rattle.bl_emit_spec_laws.specs.Remember.{CallersRemember}
use Rattle.bl_emit_spec_laws.specs.Within.{AllStayWithin}
use Rattle.bl_emit_spec_laws_nodes.specs.Seen.{OwnIsSeen, TargetsAreSeen}
use Rattle.bl_emit_spec_laws_nodes.specs.Views.{ActsLeave, RememberingStands}

-- what the laws of a program's parts give
pub record Parts (structs : List StructDef) (units : List UnitDef) (entry : ℕ) : Type 0 where
  pub views : ViewsAreTyped
  pub functions : FunctionsSimulate structs units entry
  pub activities : AllActivitiesSimulate
  pub begin : FunctionsBeginWhere structs units entry
  pub pointers : PointersFollow structs units entry
  pub runs : RunsSimulate structs units entry
  pub own : RulesAreOwn structs units entry
  pub copied : NodesCopied
  pub runs_copied : RunsCopied
  pub counters : AllSuffice
  pub turns : AllTurnsFit
  pub apart : CallsApart structs units entry
  pub fitting : NodesFit structs units entry
  pub given : AllRunsEstablish structs units entry
  pub left : AllRunsLeave
  pub pass : BlocksPass
  pub stay : AllStayWithin
  pub placed : BlocksArePlaced
  pub points : PointsSimulate structs units entry
  pub prevs : PrevsAgree
  pub remember : CallersRemember
  pub seen : OwnIsSeen
  pub targets : TargetsAreSeen
  pub acts : ActsLeave
  pub remembering : RememberingStands

module _ (structs : List StructDef) (units : List UnitDef) (entry : ℕ) (parts : Parts structs units entry) (machine : List InMachine)
    (activities : Activities) (limits : KeepsLimits structs units entry) (compiled : CompilationContext structs units entry machine activities)
  where
    abbrev W : Setting
    W = setting_of structs units entry

    points_stand : PointsStand structs units entry activities
    points_stand = record {
      own = parts.own machine activities limits compiled;
      remembering = parts.remembering W activities
          (λ i j unit l at arguments. parts.remember structs units entry machine activities i j unit l at arguments compiled);
      nodes = record {
        fitting = λ k position unit n. parts.fitting k position unit n compiled.well_typed compiled.passes;
        copied = λ k position unit n. parts.copied structs units entry k position unit n compiled.well_typed;
      };
      apart = parts.apart compiled.well_typed compiled.passes;
      views = λ i unit store there fits. (parts.views structs units entry i unit store compiled.well_typed there fits).now;
      agree = parts.prevs;
      seen = parts.acts structs units entry machine activities compiled (parts.seen structs units entry machine activities compiled);
    }

    pub compiled_simulate : ActivitiesSimulate structs units entry machine activities
    compiled_simulate =
        let points = parts.points machine activities (λ ok. points_stand) in
        let runs = parts.runs machine activities
        (parts.given machine activities (parts.runs_copied structs units entry compiled.well_typed)) (parts.left structs units entry machine activities)
        (parts.targets structs units entry machine activities compiled) (λ ok. points_stand) in
        parts.activities structs units entry machine activities parts.functions
        (parts.begin machine activities (parts.remember structs units entry machine activities)
        (parts.counters structs units entry machine activities compiled.well_typed compiled.passes compiled.agrees compiled.built))
        (parts.pointers machine activities)
        (λ i unit store ok there fits. (parts.views structs units entry i unit store ok.well_typed there fits).now)
        (parts.remember structs units entry machine activities)
        (parts.pass structs units entry machine activities (parts.placed structs units entry machine activities)
        (parts.turns structs units entry machine activities) (parts.stay structs units entry machine activities) points.0 runs.0
        runs.1 points.1)

pub whole : (structs : List StructDef) (units : List UnitDef) (entry : ℕ) → Parts structs units entry → CompiledSimulate structs units entry
whole structs units entry parts machine activities limits compiled = compiled_simulate structs units entry parts machine activities limits compiled
