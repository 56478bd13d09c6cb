-- Nodes of one `run`: the one at which it begins, and the one at which it goes on.
use Rattle.std.proofs.Common.{◌≡◌, ◌∙◌, true, [], ◌∷◌, Option, Some, None, refl, ap, subst, if◌then◌else◌}
use Rattle.bl_tree.specs.declared.place.Place.{Place}
use Rattle.bl_tree.specs.Rules.{same_place}
use Rattle.bl_graph_nodes.specs.Nodes.{ActAt, Arguments, CheckAt, DepthEndAt, DepthJoinAt, EnterAt, ForkAt, HeadAt, Node, PauseAt, ResumeAt, StartAt}
use Rattle.bl_graph_nodes.specs.Nodes.{SurfaceEndAt, SurfaceJoinAt, TestAt}
use Rattle.bl_graph_nodes.specs.Plain.{Label}
use Rattle.bl_machine.specs.Blocks.{goes_straight}
use Rattle.bl_machine_pass_laws_execution.specs.Executes.{IsSameRun}
use Rattle.bl_emit_spec.specs.Blocks.{GoesOn, NodeCode, RunPart, leaving_flag, run_part, same_run}

-- a `run` begins at the first node, and goes on at the second
pub record OneRun (n m : Node) : Type 0 where
  pub first : Label
  pub at : Place
  pub arguments : Arguments
  pub begins : n ≡ EnterAt first at arguments
  pub second : Label
  pub place : Place
  pub given : Arguments
  pub goes_on : m ≡ ResumeAt second place given
  pub same : same_place at place ≡ true

pub one_run : (n m : Node) → IsSameRun n m → OneRun n m
one_run (ActAt l s) m is = absurd is
one_run (TestAt l at e) m is = absurd is
one_run (PauseAt l at) m is = absurd is
one_run (EnterAt l at arguments) (ActAt l' s) is = absurd is
one_run (EnterAt l at arguments) (TestAt l' at' e) is = absurd is
one_run (EnterAt l at arguments) (PauseAt l' at') is = absurd is
one_run (EnterAt l at arguments) (EnterAt l' at' arguments') is = absurd is
one_run (EnterAt l at arguments) (ResumeAt l' at' arguments') is =
    record {
      first = l;
      at = at;
      arguments = arguments;
      begins = refl;
      second = l';
      place = at';
      given = arguments';
      goes_on = refl;
      same = is;
    }
one_run (EnterAt l at arguments) (HeadAt l' at') is = absurd is
one_run (EnterAt l at arguments) (StartAt l' at') is = absurd is
one_run (EnterAt l at arguments) (CheckAt l' at' e) is = absurd is
one_run (EnterAt l at arguments) (SurfaceEndAt l' at') is = absurd is
one_run (EnterAt l at arguments) (DepthEndAt l' at') is = absurd is
one_run (EnterAt l at arguments) (ForkAt l' at') is = absurd is
one_run (EnterAt l at arguments) (SurfaceJoinAt l' at') is = absurd is
one_run (EnterAt l at arguments) (DepthJoinAt l' at') is = absurd is
one_run (ResumeAt l at arguments) m is = absurd is
one_run (HeadAt l at) m is = absurd is
one_run (StartAt l at) m is = absurd is
one_run (CheckAt l at e) m is = absurd is
one_run (SurfaceEndAt l at) m is = absurd is
one_run (DepthEndAt l at) m is = absurd is
one_run (ForkAt l at) m is = absurd is
one_run (SurfaceJoinAt l at) m is = absurd is
one_run (DepthJoinAt l at) m is = absurd is

-- nodes whose parts are of one `run` are so
pub same_parts : (n m : Node) → same_run (run_part n) (run_part m) ≡ true → IsSameRun n m
same_parts (ActAt l s) m is = absurd (cc)
same_parts (TestAt l at e) m is = absurd (cc)
same_parts (PauseAt l at) m is = absurd (cc)
same_parts (EnterAt l at arguments) (ActAt l' s) is = absurd (cc)
same_parts (EnterAt l at arguments) (TestAt l' at' e) is = absurd (cc)
same_parts (EnterAt l at arguments) (PauseAt l' at') is = absurd (cc)
same_parts (EnterAt l at arguments) (EnterAt l' at' arguments') is = absurd (cc)
same_parts (EnterAt l at arguments) (ResumeAt l' at' arguments') is = is
same_parts (EnterAt l at arguments) (HeadAt l' at') is = absurd (cc)
same_parts (EnterAt l at arguments) (StartAt l' at') is = absurd (cc)
same_parts (EnterAt l at arguments) (CheckAt l' at' e) is = absurd (cc)
same_parts (EnterAt l at arguments) (SurfaceEndAt l' at') is = absurd (cc)
same_parts (EnterAt l at arguments) (DepthEndAt l' at') is = absurd (cc)
same_parts (EnterAt l at arguments) (ForkAt l' at') is = absurd (cc)
same_parts (EnterAt l at arguments) (SurfaceJoinAt l' at') is = absurd (cc)
same_parts (EnterAt l at arguments) (DepthJoinAt l' at') is = absurd (cc)
same_parts (ResumeAt l at arguments) m is = absurd (cc)
same_parts (HeadAt l at) m is = absurd (cc)
same_parts (StartAt l at) m is = absurd (cc)
same_parts (CheckAt l at e) m is = absurd (cc)
same_parts (SurfaceEndAt l at) m is = absurd (cc)
same_parts (DepthEndAt l at) m is = absurd (cc)
same_parts (ForkAt l at) m is = absurd (cc)
same_parts (SurfaceJoinAt l at) m is = absurd (cc)
same_parts (DepthJoinAt l at) m is = absurd (cc)

module _ (n m : Node) (is : IsSameRun n m) where
  abbrev both : OneRun n m
  both = one_run n m is

  goes : run_part m ≡ GoesOn both.place
  goes = ap run_part both.goes_on

  not_straight : (n : Node) (l : Label) (at : Place) (arguments : Arguments) → n ≡ ResumeAt l at arguments → goes_straight n ≡ true → ⊥
  not_straight n l at arguments same straight =
      let stays : goes_straight (ResumeAt l at arguments) ≡ true = subst (λ (n : Node). goes_straight n ≡ true) same straight in cc

  -- one that goes on with a `run` doesn't go straight on
  pub stays : goes_straight m ≡ true → ⊥
  stays straight = not_straight m both.second both.place both.given both.goes_on straight

  -- its block leaves no call
  pub leaves_none : (t : NodeCode) (next : Option NodeCode) → t.run ≡ run_part m → leaving_flag (t ∷ []) next ≡ None
  leaves_none t None same = refl
  leaves_none t (Some next) same = ap (λ (part : RunPart). if same_run part next.run then t.flag else None) (same ∙ goes)
