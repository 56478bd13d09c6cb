-- What rests between ticks stands in the next one.
use Rattle.std.proofs.Common.{◌≡◌, inl, inr, ℕ, Bool, true, false, not, List, Some, [], refl, sym, ◌∙◌, subst}
use Rattle.std.proofs.lemmas.Bool.{not-true}
use Rattle.bl_tree.proofs.Basics.{and_first, and_second, one_some, true_false_any}
use Rattle.bl_tree.specs.declared.place.Place.{Place as Source}
use Rattle.bl_tree.specs.declared.tree.StructDef.{StructDef}
use Rattle.bl_tree.specs.declared.tree.Unit.{Unit as UnitDef}
use Rattle.bl_tree.specs.Program.{IsWellTyped as Typed}
use Rattle.bl_effects.specs.Rules.{Passes}
use Rattle.bl_graph_nodes.specs.Nodes.{Node, entry}
use Rattle.bl_graph_nodes.specs.Plain.{Bodies, Body as BodyOf, Done, Last, Then, plain_body}
use Rattle.bl_ctree.specs.Control.{Body, Check}
use Rattle.bl_ctree.specs.Instances.{Setting, setting_of, unit_at}
use Rattle.bl_machine_prevs.specs.Declared.{FromText}
use Rattle.bl_ctree.specs.Store.{Store, view_at}
use Rattle.bl_ctree_laws.specs.Trees.{Tree, Trees, Nil, Wait, Test, Idle, Do, Seq, Par, Guard, Run, all_woken, are_done, are_settled, beside, do_block, is_nil}
use Rattle.bl_ctree_laws.specs.Trees.{is_settled, no_tree, woken}
use Rattle.bl_ctree_laws_confluence.specs.Apart.Running.{AcceptedRunsApart}
use Rattle.bl_ctree_laws_traces.specs.Progress.Accepted.{ProgramsAreCallable}
use Rattle.bl_ctree_laws_traces.specs.Progress.Laws.{BodiesFitGraph, WakingKeepsFitsGraph}
use Rattle.bl_ctree_laws_traces.specs.Progress.FitsGraph.{AllFitGraph, FitsGraph}
use Rattle.bl_ctree_laws_traces.specs.Progress.Places.{Place, ahead_of, guarded, in_branch, whole}
use Rattle.bl_machine.specs.Uses.{Slots}
use Rattle.bl_machine_laws.specs.Passes.Follows as follows
use Rattle.bl_machine_laws.specs.Passes.Follows.{Fails, Follows}
use Rattle.bl_machine_pass.specs.Registers.{Registers}
use Rattle.bl_machine_pass_laws.specs.Turns.Invariant.{PassInvariant}
use Rattle.bl_machine_pass_laws.specs.Turns.Laws.{FirstCounterTells}
use Rattle.bl_machine_pass_laws_turns.specs.Turns.{FitsBody, PassesBegin, TreesFitBodies}
use Rattle.bl_machine_pass_laws_execution.specs.Frames.{AllFramesNest, Frames}
use Rattle.bl_machine_pass_laws_execution.specs.Fresh.Fresh.{Framed, Fresh, locals}
use Rattle.bl_machine_pass_laws_execution.specs.Fresh.Laws.{BodiesAsk, OwnIsSeen, TreesAsk}
use Rattle.bl_machine_pass_laws_execution.specs.Fresh.Senses.{Senses}
use Rattle.bl_machine_pass_laws_execution.proofs.OnFresh.Lists.{none_among}
use Rattle.bl_machine_pass_laws_execution.specs.Executes.{ClearsInside, PassTraps, begun_registers, resumed_registers}
use Rattle.bl_machine_pass_laws_execution.specs.Passes.Laws.{PassesExecute}
use Rattle.bl_machine_pass_laws_execution.specs.Passes.Standing.{AllCallsRest, CallsRest, EachRunsApart, OneRunsIn, RunsApart, RunsIn, Standing}
use Rattle.bl_machine_pass_laws_execution.specs.Performs.{AllInContext, AllTurnsPerform}
use Rattle.bl_machine_pass_laws_execution.proofs.OnPerforms.Copying.{view_length}
use Rattle.bl_machine_pass_laws_execution.proofs.OnPerforms.Keeping.{block_apart, block_holds, block_rests, block_runs}
use Rattle.bl_machine_pass_laws_execution.specs.Ticks.{Resting, TickExecuted, TicksExecute}
use Rattle.bl_machine_pass_laws_execution.proofs.OnPerforms.Touching.{body_open}

-- ---- waking

mutual
  wake_runs : (c : Tree) (place : Source) → RunsIn place (woken c) → RunsIn place c
  wake_runs Nil place h = h
  wake_runs (Wait s) place h = absurd h
  wake_runs (Test s) place h = h
  wake_runs (Idle body) place h = block_runs body place h
  wake_runs (Do s) place h = h
  wake_runs (Seq c rest) place (inl h) = inl (wake_runs c place h)
  wake_runs (Seq c rest) place (inr h) = inr h
  wake_runs (Par s stood branches) place (inl h) = inl h
  wake_runs (Par s stood branches) place (inr h) = inr (each_wakes_runs branches place h)
  wake_runs (Guard s phase stood c) place (inl h) = inl h
  wake_runs (Guard s phase stood c) place (inr h) = inr (wake_runs c place h)
  wake_runs (Run s callee phase stood c) place h = h

  each_wakes_runs : (branches : Trees) (place : Source) → OneRunsIn place (all_woken branches) → OneRunsIn place branches
  each_wakes_runs no_tree place h = h
  each_wakes_runs (beside weak c branches) place (inl h) = inl (wake_runs c place h)
  each_wakes_runs (beside weak c branches) place (inr h) = inr (each_wakes_runs branches place h)

mutual
  wake_apart : (c : Tree) → RunsApart c → RunsApart (woken c)
  wake_apart Nil apart = tt
  wake_apart (Wait s) apart = tt
  wake_apart (Test s) apart = tt
  wake_apart (Idle body) apart = block_apart body apart
  wake_apart (Do s) apart = apart
  wake_apart (Seq c rest) apart = (wake_apart c apart.0, apart.1)
  wake_apart (Par s stood branches) apart = (apart.0, apart.1, each_wakes_apart s.bodies branches apart.2)
  wake_apart (Guard s phase stood c) apart = (apart.0, wake_apart c apart.1)
  wake_apart (Run s callee phase stood c) apart = wake_apart c apart

  each_wakes_apart : (bodies : Bodies) (branches : Trees) → EachRunsApart bodies branches → EachRunsApart bodies (all_woken branches)
  each_wakes_apart bodies no_tree each = tt
  each_wakes_apart Last (beside weak c branches) each = absurd each
  each_wakes_apart (BodyOf weak' body rest) (beside weak c branches) each =
      (λ place h. each.0 place (wake_runs c place h), wake_apart c each.1, each_wakes_apart rest branches each.2)

mutual
  wake_rests : (w : Setting) (slots : ℕ → Slots) (i : ℕ) (c : Tree) (g : Place) → FitsGraph w i c g → is_settled c ≡ true →
      CallsRest w slots c →
      CallsRest w slots (woken c)
  wake_rests w slots i Nil g live settled rests = tt
  wake_rests w slots i (Wait s) g live settled rests = tt
  wake_rests w slots i (Test s) g live settled rests = tt
  wake_rests w slots i (Idle body) g live settled rests = absurd live
  wake_rests w slots i (Do s) g live settled rests = tt
  wake_rests w slots i (Seq c Done) g live settled rests = absurd live
  wake_rests w slots i (Seq c (Then s rest)) g live settled rests = wake_rests w slots i c (ahead_of (entry s) g) live.0 settled rests
  wake_rests w slots i (Par s stood branches) g live settled rests =
      each_wakes_rests w slots i branches s.bodies stood g live.0 (and_first (are_settled branches) (not (are_done branches)) settled) rests
  wake_rests w slots i (Guard s Body stood c) g live settled rests =
      wake_rests w slots i c (guarded s g) live.0 (and_first (is_settled c) (not (is_nil c)) settled) rests
  wake_rests w slots i (Guard s Check stood c) g live settled rests = true_false_any false settled refl
  wake_rests w slots i (Run s callee Check stood c) g live settled rests = true_false_any false settled refl
  wake_rests w slots i (Run s callee Body stood c) g live settled rests =
      let own = rests.0 in
      let same : live.0 ≡ own.unit = one_some live.0 own.unit (unit_at w callee) live.2.is own.is in
      let inner = and_first (is_settled c) (not (is_nil c)) settled in (
        record {
          unit = own.unit;
          is = own.is;
          before = c;
          rested = record {
            stood = stood;
            lives = subst (λ (u : UnitDef). FitsGraph w callee c (whole stood (plain_body u.body))) same live.1;
            stands = own.stands;
            settled = inner;
            unended = not-true (is_nil c) (and_second (is_settled c) (not (is_nil c)) settled);
          };
          wakes = refl;
        },
        wake_rests w slots callee c (whole stood (plain_body live.0.body)) live.1 inner rests.1,
      )

  each_wakes_rests : (w : Setting) (slots : ℕ → Slots) (i : ℕ) (branches : Trees) (bodies : Bodies) (stood : Bool) (g : Place) →
      AllFitGraph w i branches bodies stood g → are_settled branches ≡ true → AllCallsRest w slots branches →
      AllCallsRest w slots (all_woken branches)
  each_wakes_rests w slots i no_tree bodies stood g live settled rests = tt
  each_wakes_rests w slots i (beside weak c branches) Last stood g live settled rests = absurd live
  each_wakes_rests w slots i (beside weak c branches) (BodyOf weak' body rest) stood g live settled rests = (
    wake_rests w slots i c (in_branch stood body g) live.0 (and_first (is_settled c) (are_settled branches) settled) rests.0,
    each_wakes_rests w slots i branches rest stood g live.2 (and_second (is_settled c) (are_settled branches) settled) rests.1,
  )

settles : {w : Setting} {rank : ℕ → Node → ℕ} {i k : ℕ} {c : Tree} {store : Store} {c' : Tree} {left : Store} →
    Follows w rank i k c store c' left → is_settled c' ≡ true
settles (follows.rests settled) = settled
settles (follows.goes least first takes more) = settles more

-- ---- ticks

module _ (runs_apart : AcceptedRunsApart) (begin_live : BodiesFitGraph) (all_callable : ProgramsAreCallable) (wake_live : WakingKeepsFitsGraph)
    (execute : PassesExecute) (frames_nest : AllFramesNest) (perform : AllTurnsPerform) (begin : PassesBegin) (trees : TreesFitBodies)
    (own_seen : OwnIsSeen) (ask : TreesAsk) (bodies_ask : BodiesAsk) (structs : List StructDef) (units : List UnitDef) (program : ℕ)
    (rank : ℕ → Node → ℕ) (slots : ℕ → Slots) (clear : ℕ → Frames → Frames) (typed : Typed structs units program)
    (passes : Passes units) (from : FromText units) (given : AllInContext (setting_of structs units program) rank slots)
    (clears : ClearsInside (setting_of structs units program) clear) (i : ℕ) (unit : UnitDef)
    (is : unit_at (setting_of structs units program) i ≡ Some unit) where
  abbrev W : Setting
  W = setting_of structs units program

  pub record Ready (stood : Bool) (frames : Frames) (c : Tree) (r : Registers) : Type 0 where
    stands : FitsBody (slots i) (plain_body unit.body) c
    pass_invariant : PassInvariant (slots i) (rank i) (plain_body unit.body) 0 c r
    standing : Standing W slots i unit stood frames c

  begun : (frames : Frames) → Ready false frames (do_block (plain_body unit.body)) (begun_registers rank i unit)
  begun frames = record {
    stands = trees.begins (slots i) unit (given i unit is).laid;
    pass_invariant = begin.begins W rank i (slots i) unit (λ k. 0) (given i unit is)
        (body_open (plain_body unit.body) ((given i unit is).paces i unit is)) (λ j. refl);
    standing = record {
      lives = begin_live W i unit (all_callable structs units program typed) is;
      holds = block_holds slots frames (plain_body unit.body);
      rests = block_rests W slots (plain_body unit.body);
      apart = block_apart (plain_body unit.body) (runs_apart structs units program i unit typed passes is);
    };
  }

  resumed : (frames : Frames) (c : Tree) → Resting W slots i unit frames c → Ready true frames (woken c) (resumed_registers frames i)
  resumed frames c resting =
      let old = resting.rested in record {
        stands = trees.wakes W i old.stood (slots i) unit c old.lives old.settled old.stands;
        pass_invariant = begin.resumes W rank i (slots i) unit old.stood c (frames i) (given i unit is) old.lives old.stands old.settled old.unended
            resting.holds.0;
        standing = record {
          lives = wake_live W i old.stood (plain_body unit.body) c old.settled old.lives;
          holds = ((frames_nest structs units program).wakes slots frames i c old.stood (plain_body unit.body) old.lives resting.holds).1;
          rests = wake_rests W slots i c (whole old.stood (plain_body unit.body)) old.lives old.settled resting.rests;
          apart = wake_apart c resting.apart;
        };
      }

  begun_senses : (store : Store) → Framed W store → Senses W i unit [] store (view_at W store i).now (do_block (plain_body unit.body))
  begun_senses store framed = record {
    framed = framed;
    behind = λ x at. absurd (none_among x at);
    hold = λ x at. absurd (none_among x at);
    long = view_length W store i;
    asks = ask.begins W i unit [] (plain_body unit.body) (bodies_ask structs units program i unit typed from is);
    fresh = λ j h. absurd (ask.none_due W (plain_body unit.body) j h);
  }

  resumed_senses : (frames : Frames) (c : Tree) (store : Store) → Framed W store → ((j : ℕ) → Fresh W store j) →
      Resting W slots i unit frames c →
      Senses W i unit (locals unit) store (view_at W store i).now (woken c)
  resumed_senses frames c store framed fresh resting = record {
    framed = framed;
    behind = λ x at. at;
    hold = λ x at. own_seen.fresh W i x unit store is (fresh i) at;
    long = view_length W store i;
    asks = ask.wakes W i unit (locals unit) c resting.asks;
    fresh = λ j h. fresh j;
  }

  pub tick : (stood : Bool) (frames : Frames) (c : Tree) (r : Registers) → Ready stood frames c r → (store : Store) (known : List ℕ) →
      Senses W i unit known store (view_at W store i).now c → (c' : Tree) (left : Store) → Follows W rank i 0 c store c' left →
      TickExecuted W rank slots clear i unit frames store r c' left
  tick stood frames c r ready store known senses c' left follow =
      let one = execute.follows W rank slots clear i unit stood 0 frames c store known (view_at W store i).now r c' left (given i unit is)
      (perform structs units program rank slots clear i unit stood typed passes from given clears is) follow ready.stands ready.pass_invariant ready.standing
      senses in record {
        inner = one.inner;
        registers = one.registers;
        executes = one.executes;
        over = one.over;
        rests = λ unended. record {
          rested = record { stood = stood; lives = one.standing.lives; stands = one.stands; settled = settles follow; unended = unended };
          holds = (frames_nest structs units program).holds slots one.inner i c' stood (plain_body unit.body) one.registers.counters
              one.standing.lives one.standing.holds (one.counters unended);
          rests = one.standing.rests;
          apart = one.standing.apart;
          asks = one.asks;
        };
        framed = one.framed;
      }

  pub trap : (stood : Bool) (frames : Frames) (c : Tree) (r : Registers) → Ready stood frames c r → (store : Store) (known : List ℕ) →
      Senses W i unit known store (view_at W store i).now c → Fails W rank i 0 c store →
      PassTraps W rank slots clear i 0 frames store (view_at W store i).now r
  trap stood frames c r ready store known senses fail =
      execute.fails W rank slots clear i unit stood 0 frames c store known (view_at W store i).now r (given i unit is)
      (perform structs units program rank slots clear i unit stood typed passes from given clears is) fail ready.stands ready.pass_invariant ready.standing
      senses

  pub first_tick : (frames : Frames) (store : Store) (c' : Tree) (left : Store) → Framed W store →
      Follows W rank i 0 (do_block (plain_body unit.body)) store c' left →
      TickExecuted W rank slots clear i unit frames store (begun_registers rank i unit) c' left
  first_tick frames store c' left framed follow =
      tick false frames (do_block (plain_body unit.body)) (begun_registers rank i unit) (begun frames) store [] (begun_senses store framed) c' left
      follow

  pub next_tick : (frames : Frames) (c : Tree) (store : Store) (c' : Tree) (left : Store) → Framed W store → ((j : ℕ) → Fresh W store j) →
      Resting W slots i unit frames c → Follows W rank i 0 (woken c) store c' left →
      TickExecuted W rank slots clear i unit frames store (resumed_registers frames i) c' left
  next_tick frames c store c' left framed fresh resting follow =
      tick true frames (woken c) (resumed_registers frames i) (resumed frames c resting) store (locals unit)
      (resumed_senses frames c store framed fresh resting) c' left follow

  pub first_trap : (frames : Frames) (store : Store) → Framed W store → Fails W rank i 0 (do_block (plain_body unit.body)) store →
      PassTraps W rank slots clear i 0 frames store (view_at W store i).now (begun_registers rank i unit)
  first_trap frames store framed fail =
      trap false frames (do_block (plain_body unit.body)) (begun_registers rank i unit) (begun frames) store [] (begun_senses store framed) fail

  pub next_trap : (frames : Frames) (c : Tree) (store : Store) → Framed W store → ((j : ℕ) → Fresh W store j) →
      Resting W slots i unit frames c →
      Fails W rank i 0 (woken c) store → PassTraps W rank slots clear i 0 frames store (view_at W store i).now (resumed_registers frames i)
  next_trap frames c store framed fresh resting fail =
      trap true frames (woken c) (resumed_registers frames i) (resumed frames c resting) store (locals unit)
      (resumed_senses frames c store framed fresh resting) fail

-- what goes on has a first counter that isn't 0
counts : FirstCounterTells → (w : Setting) (rank : ℕ → Node → ℕ) (slots : ℕ → Slots) (i : ℕ) (unit : UnitDef) (frames : Frames)
    (c : Tree) →
    AllInContext w rank slots → unit_at w i ≡ Some unit → Resting w slots i unit frames c → frames i 0 ≡ 0 → ⊥
counts tells w rank slots i unit frames c given is resting zero =
    let old = resting.rested in
    tells w i (slots i) unit old.stood c old.lives (given i unit is).laid old.stands.placed old.settled old.unended
    (sym (resting.holds.0 0) ∙ zero)

pub ticks_execute : AcceptedRunsApart → BodiesFitGraph → ProgramsAreCallable → WakingKeepsFitsGraph → PassesExecute → AllFramesNest →
    AllTurnsPerform → PassesBegin → TreesFitBodies → OwnIsSeen → TreesAsk → BodiesAsk → FirstCounterTells → TicksExecute
ticks_execute apart live callable wake execute frames_nest perform begin trees own_seen ask bodies_ask tells = record {
  begins = λ structs units program rank slots clear i unit frames store c' left typed passes from given clears is framed follow.
      first_tick apart live callable wake execute frames_nest perform begin trees own_seen ask bodies_ask structs units program rank slots clear typed
      passes from given clears i unit is frames store c' left framed follow;
  resumes = λ structs units program rank slots clear i unit frames c store c' left typed passes from given clears is framed fresh resting follow.
      next_tick apart live callable wake execute frames_nest perform begin trees own_seen ask bodies_ask structs units program rank slots clear typed
      passes from given clears i unit is frames c store c' left framed fresh resting follow;
  counts = λ structs units program rank slots i unit frames c given is resting.
      counts tells (setting_of structs units program) rank slots i unit frames c given is resting;
  begun_fails = λ structs units program rank slots clear i unit frames store typed passes from given clears is framed fail.
      first_trap apart live callable wake execute frames_nest perform begin trees own_seen ask bodies_ask structs units program rank slots clear typed
      passes from given clears i unit is frames store framed fail;
  resumed_fails = λ structs units program rank slots clear i unit frames c store typed passes from given clears is framed fresh resting fail.
      next_trap apart live callable wake execute frames_nest perform begin trees own_seen ask bodies_ask structs units program rank slots clear typed
      passes from given clears i unit is frames c store framed fresh resting fail;
}
