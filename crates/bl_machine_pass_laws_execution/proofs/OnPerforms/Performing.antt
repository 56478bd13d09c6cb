-- Each turn is made by rules, with the passes of what it calls.
use Rattle.std.proofs.Common.{◌≡◌, inl, inr, ℕ, zero, suc, ◌+◌, ◌<◌, ◌≤◌, Bool, true, false, List, [], length}
use Rattle.std.proofs.Common.{Some, None, refl, sym, ap, ◌∙◌, subst, arith}
use Rattle.std.specs.Prelude.{slice_get, ◌++◌}
use Rattle.bl_tree.proofs.Basics.{one_some}
use Rattle.bl_tree.specs.declared.place.Place.{Place as Source}
use Rattle.bl_tree.specs.declared.tree.Expr.{Expr}
use Rattle.bl_tree.specs.declared.tree.StructDef.{StructDef}
use Rattle.bl_tree.specs.declared.tree.Unit.{Unit as UnitDef}
use Rattle.bl_tree.specs.declared.value.Value.{Value}
use Rattle.bl_tree.specs.Program.{IsWellTyped as Typed}
use Rattle.bl_effects.specs.Rules.{Passes}
use Rattle.bl_graph_nodes.specs.Nodes.{EnterAt, Node, arguments_of, entry}
use Rattle.bl_graph_nodes.specs.Plain.{Block, Bodies, Body as BodyOf, Last, Then, plain_body}
use Rattle.bl_graph_nodes.specs.Steps.{run_node}
use Rattle.bl_machine_prevs.specs.Declared.{FromText, prevs_at, prevs_in_inputs}
use Rattle.bl_ctree.specs.Actions.{Copies, Gives}
use Rattle.bl_ctree.specs.Control.{Body, Check}
use Rattle.bl_ctree.specs.Instances.{Setting, callee_of, setting_of, unit_at}
use Rattle.bl_ctree.specs.Store.{Store, view_at}
use Rattle.bl_ctree_laws.specs.Ends.{done_by}
use Rattle.bl_ctree_laws.specs.Pending.{deed}
use Rattle.bl_ctree_laws.specs.Trees.{Fork, Tree, Trees, Nil, Seq, Par, Guard, Run, beside, do_block}
use Rattle.bl_ctree_laws_confluence.specs.Deeds.Nesting.{Inside, InstancesNest, ProgramsNest, itself}
use Rattle.bl_ctree_laws_confluence.specs.Apart.Owned.{RunsAt, SomeIn, SomeInEach}
use Rattle.bl_ctree_laws_confluence.specs.Apart.Running.{AcceptedRunsApart, RunApart}
use Rattle.bl_ctree_laws_confluence.specs.Apart.Seen.{InCall}
use Rattle.bl_ctree_laws_traces.specs.Progress.Accepted.{ProgramsAreCallable}
use Rattle.bl_ctree_laws_traces.specs.Progress.Laws.{BodiesFitGraph, StepsKeepFitsGraph}
use Rattle.bl_ctree_laws_traces.specs.Progress.FitsGraph.{AllFitGraph, FitsGraph}
use Rattle.bl_ctree_laws_traces.specs.Progress.Places.{AllCallable, Place, ahead_of, guarded, in_branch, whole}
use Rattle.bl_machine.specs.Uses.{Slots}
use Rattle.bl_machine_laws.specs.Numbers.Numbers.{Over, numbers_of}
use Rattle.bl_machine_laws.specs.Numbers.Steps.{TurnsAreWalks, TurnsWait}
use Rattle.bl_machine_laws.specs.Numbers.Turns as turns
use Rattle.bl_machine_laws.specs.Numbers.Turns.{AnsweredDeed, OneTurns, Turns, did}
use Rattle.bl_machine_laws.specs.Waiting.Waking.{WakingKeepsNumbers}
use Rattle.bl_machine_laws.specs.Passes.Follows as follows
use Rattle.bl_machine_laws.specs.Passes.Follows.{DeedYields, Fails, Follows, OneTurnSteps, OneTurnTraps, TurnSteps, TurnTraps}
use Rattle.bl_machine_pass.specs.Registers.{Registers, with_at}
use Rattle.bl_machine_pass_laws.specs.Turns.Invariant.{PassInvariant}
use Rattle.bl_machine_pass_laws.specs.Turns.Laws.{FirstCounterTells, answer_of, one_answer_of}
use Rattle.bl_machine_pass_laws_turns.specs.Turns.{FitsBody, PassesBegin, TreesFitBodies}
use Rattle.bl_machine_pass_laws_execution.specs.Frames.{AllCallsMatchTree, AllFramesNest, CallsMatchTree, ChangeOnly, Frames, FramesNest}
use Rattle.bl_machine_pass_laws_execution.specs.Executes as executes
use Rattle.bl_machine_pass_laws_execution.specs.Executes.{ClearsInside, NodeTraps, Performs, begun_registers, deed_at, resumed_registers}
use Rattle.bl_machine_pass_laws_execution.specs.Passes.Laws.{Executed, PassesExecute, PointsAreOfNodes, TurnsPerform}
use Rattle.bl_machine_pass_laws_execution.specs.Passes.Standing.{AllCallsRest, CallsRest, EachRunsApart, OneRunsIn, Rested, RunsApart, RunsIn, Standing, Woken}
use Rattle.bl_machine_pass_laws_execution.specs.Fresh.Asks.{Asks, DueIn, EachAsks, InputsFit, IsAmongVariables, OneDueIn, declared_at, next_declared}
use Rattle.bl_machine_pass_laws_execution.specs.Fresh.Fresh.{Framed, Fresh, locals}
use Rattle.bl_machine_pass_laws_execution.specs.Fresh.Laws.{BodiesAsk, DeedsAreSeen, OwnIsSeen, TreesAsk}
use Rattle.bl_machine_pass_laws_execution.specs.Fresh.Senses.{InstanceChanges, Senses}
use Rattle.bl_machine_pass_laws_execution.proofs.OnFresh.Lists.{among_right, known_so, none_among}
use Rattle.bl_machine_pass_laws_execution.specs.Performs.{AllInContext, AllTurnsPerform}
use Rattle.bl_machine_pass_laws_execution.proofs.OnPerforms.Copying.{view_length}
use Rattle.bl_machine_pass_laws_execution.proofs.OnPerforms.Keeping.{Kept, block_apart, block_holds, block_rests, ended, point_kept, seq_kept}
use Rattle.bl_machine_pass_laws_execution.proofs.OnPerforms.Storing.{Passing, SeenTurn, chained, copies_keep, copies_passing, deed_passing, fresh_same}
use Rattle.bl_machine_pass_laws_execution.proofs.OnPerforms.Storing.{next_senses, node_leaves, pass_passing, sees_so}
use Rattle.bl_machine_pass_laws_execution.proofs.OnPerforms.Touching.{Touched, body_open, branch_runs, by_sum, calls_touch, due_touches, each_touch, first_runs}
use Rattle.bl_machine_pass_laws_execution.proofs.OnPerforms.Touching.{guard_runs, in_call, inside_callee, later_runs, one_due_touches, one_place}
use Rattle.bl_machine_pass_laws_execution.proofs.OnPerforms.Touching.{par_runs, run_asked, run_declares, touch, widen, with_other}
use Rattle.bl_machine_pass_laws_execution.proofs.OnPerforms.Turning.{passed, waits_there, walk_live}
use Rattle.bl_machine_laws.proofs.OnPasses.Passing.{there}

module _ (runs_apart : AcceptedRunsApart) (nests : ProgramsNest) (begin_live : BodiesFitGraph) (all_callable : ProgramsAreCallable)
    (keep_live : StepsKeepFitsGraph) (walks : TurnsAreWalks) (waiting : TurnsWait) (keep_numbers : WakingKeepsNumbers) (execute : PassesExecute)
    (points : PointsAreOfNodes) (frames_nest : AllFramesNest) (begin : PassesBegin) (trees : TreesFitBodies) (tells : FirstCounterTells)
    (deeds : DeedsAreSeen) (own_seen : OwnIsSeen) (ask : TreesAsk) (bodies_ask : BodiesAsk) (structs : List StructDef)
    (units : List UnitDef) (program : ℕ) (rank : ℕ → Node → ℕ) (slots : ℕ → Slots) (clear : ℕ → Frames → Frames)
    (typed : Typed structs units program) (passes : Passes units) (from : FromText units)
    (given : AllInContext (setting_of structs units program) rank slots) (clears : ClearsInside (setting_of structs units program) clear) where
  abbrev W : Setting
  W = setting_of structs units program

  abbrev nest : InstancesNest structs units program
  nest = nests structs units program

  abbrev nested : FramesNest structs units program
  nested = frames_nest structs units program

  abbrev callable : AllCallable W
  callable = all_callable structs units program typed

  -- ---- one instance, where all turns of those with greater numbers are made

  module _ (i : ℕ) (home_unit : UnitDef) (here : unit_at W i ≡ Some home_unit)
      (further : (callee : ℕ) (unit : UnitDef) (stood : Bool) → i < callee →
      unit_at W callee ≡ Some unit → TurnsPerform W rank slots clear callee unit stood) where
    -- a pass of what a `run` calls can begin
    record Ready (callee : ℕ) (unit : UnitDef) (stood : Bool) (frames : Frames) (c : Tree) (r : Registers) : Type 0 where
      is : unit_at W callee ≡ Some unit
      stands : FitsBody (slots callee) (plain_body unit.body) c
      pass_invariant : PassInvariant (slots callee) (rank callee) (plain_body unit.body) 0 c r
      standing : Standing W slots callee unit stood frames c

    begun_ready : (frames : Frames) (callee : ℕ) (unit : UnitDef) → unit_at W callee ≡ Some unit →
        Ready callee unit false frames (do_block (plain_body unit.body)) (begun_registers rank callee unit)
    begun_ready frames callee unit is = record {
      is = is;
      stands = trees.begins (slots callee) unit (given callee unit is).laid;
      pass_invariant = begin.begins W rank callee (slots callee) unit (λ k. 0) (given callee unit is)
          (body_open (plain_body unit.body) ((given callee unit is).paces callee unit is)) (λ j. refl);
      standing = record {
        lives = begin_live W callee unit callable is;
        holds = block_holds slots frames (plain_body unit.body);
        rests = block_rests W slots (plain_body unit.body);
        apart = block_apart (plain_body unit.body) (runs_apart structs units program callee unit typed passes is);
      };
    }

    resumed_ready : (frames : Frames) (callee : ℕ) (unit : UnitDef) (stood : Bool) (c : Tree) → unit_at W callee ≡ Some unit →
        FitsGraph W callee c (whole stood (plain_body unit.body)) → ((j : ℕ) → frames callee j ≡ numbers_of (slots callee) c Over j) →
        CallsMatchTree slots frames c → Woken W slots callee c → CallsRest W slots c → RunsApart c →
        Ready callee unit stood frames c (resumed_registers frames callee)
    resumed_ready frames callee unit stood c is live numbers holds own rests apart = record {
      is = is;
      stands = subst (λ (t : Tree). FitsBody (slots callee) (plain_body unit.body) t) (sym own.wakes)
          (trees.wakes W callee old.stood (slots callee) unit own.before lives old.settled stands);
      pass_invariant = subst (λ (t : Tree). PassInvariant (slots callee) (rank callee) (plain_body unit.body) 0 t (resumed_registers frames callee)) (sym own.wakes)
          (begin.resumes W rank callee (slots callee) unit old.stood own.before (frames callee) (given callee unit is) lives stands old.settled
          old.unended (λ j. numbers j ∙ (ap (λ (t : Tree). numbers_of (slots callee) t Over j) own.wakes
          ∙ keep_numbers W callee old.stood (plain_body unit.body) (slots callee) own.before j lives)));
      standing = record { lives = live; holds = holds; rests = rests; apart = apart };
    }
      where
        old : Rested W slots callee own.unit own.before
        old = own.rested

        same : own.unit ≡ unit
        same = one_some own.unit unit (unit_at W callee) own.is is

        lives : FitsGraph W callee own.before (whole own.rested.stood (plain_body unit.body))
        lives = subst (λ (u : UnitDef). FitsGraph W callee own.before (whole own.rested.stood (plain_body u.body))) same own.rested.lives

        stands : FitsBody (slots callee) (plain_body unit.body) own.before
        stands = subst (λ (u : UnitDef). FitsBody (slots callee) (plain_body u.body) own.before) same own.rested.stands

    -- the first counter of one that goes on isn't 0
    resumed_counts : (frames : Frames) (callee : ℕ) (unit : UnitDef) (c : Tree) → unit_at W callee ≡ Some unit →
        ((j : ℕ) → frames callee j ≡ numbers_of (slots callee) c Over j) → Woken W slots callee c → frames callee 0 ≡ 0 → ⊥
    resumed_counts frames callee unit c is numbers own none =
        let old = own.rested in
        let same : own.unit ≡ unit = one_some own.unit unit (unit_at W callee) own.is is in
        let lives : FitsGraph W callee own.before (whole old.stood (plain_body unit.body)) =
        subst (λ (u : UnitDef). FitsGraph W callee own.before (whole own.rested.stood (plain_body u.body))) same old.lives in
        let stands : FitsBody (slots callee) (plain_body unit.body) own.before =
        subst (λ (u : UnitDef). FitsBody (slots callee) (plain_body u.body) own.before) same old.stands in
        tells W callee (slots callee) unit old.stood own.before lives (given callee unit is).laid stands.placed old.settled old.unended
        (sym (numbers 0 ∙ (ap (λ (t : Tree). numbers_of (slots callee) t Over 0) own.wakes
        ∙ keep_numbers W callee old.stood (plain_body unit.body) (slots callee) own.before 0 lives)) ∙ none)

    -- ---- what it asks for

    fed_framed : (place : Source) (callee : ℕ) (inputs : List Expr) (store fed : Store) →
        DeedYields W (deed i place (Copies callee inputs)) store true fed →
        ((other : UnitDef) → unit_at W callee ≡ Some other → InputsFit (length inputs) other) → Framed W store → Framed W fed
    fed_framed place callee inputs store fed does fit framed =
        deeds.framed W i place (Copies callee inputs) store true fed does fit framed

    begun_senses : (callee : ℕ) (unit : UnitDef) (fed : Store) → unit_at W callee ≡ Some unit → Framed W fed →
        Senses W callee unit [] fed (view_at W fed callee).now (do_block (plain_body unit.body))
    begun_senses callee unit fed is framed = record {
      framed = framed;
      behind = λ x at. absurd (none_among x at);
      hold = λ x at. absurd (none_among x at);
      long = view_length W fed callee;
      asks = ask.begins W callee unit [] (plain_body unit.body) (bodies_ask structs units program callee unit typed from is);
      fresh = λ j h. absurd (ask.none_due W (plain_body unit.body) j h);
    }

    resumed_senses : (callee : ℕ) (unit : UnitDef) (stood : Bool) (c : Tree) (place : Source) (inputs : List Expr) (store fed : Store) →
        callee_of W i place ≡ Some callee → unit_at W callee ≡ Some unit → FitsGraph W callee c (whole stood (plain_body unit.body)) →
        DeedYields W (deed i place (Copies callee inputs)) store true fed →
        ((other : UnitDef) → unit_at W callee ≡ Some other → InputsFit (length inputs) other) → Asks W callee unit (locals unit) c →
        Framed W store → ((j : ℕ) → Inside W callee j → Fresh W store j) →
        Senses W callee unit (locals unit) fed (view_at W fed callee).now c
    resumed_senses callee unit stood c place inputs store fed called is live does fit asks framed fresh = record {
      framed = fed_framed place callee inputs store fed does fit framed;
      behind = λ x at. at;
      hold = λ x at. own_seen.fresh W callee x unit fed is
          (deeds.copied W i callee place (Copies callee inputs) store true fed does refl fit (fresh callee itself)) at;
      long = view_length W fed callee;
      asks = asks;
      fresh = λ j h.
          (let call = in_call W callee (λ place. RunsIn place c) j (due_touches W callee c (whole stood (plain_body unit.body)) j live h) in
          fresh_same W j store fed
          (copies_keep structs units program nest deeds own_seen i home_unit here place callee j inputs store true fed called does call)
          (fresh j (inside_callee W callee j call)));
    }

    -- it is made
    made : (callee : ℕ) (unit : UnitDef) (stood : Bool) (frames : Frames) (c : Tree) (r : Registers) (store : Store) (known : List ℕ)
        (copies : List Value) (c' : Tree) (left : Store) → i < callee → Ready callee unit stood frames c r →
        Senses W callee unit known store copies c → Follows W rank callee 0 c store c' left →
        Executed W rank slots clear callee 0 unit stood frames store copies r c' left
    made callee unit stood frames c r store known copies c' left later ready senses follow =
        execute.follows W rank slots clear callee unit stood 0 frames c store known copies r c' left (given callee unit ready.is)
        (further callee unit stood later ready.is) follow ready.stands ready.pass_invariant ready.standing senses

    cut : (callee : ℕ) (unit : UnitDef) (stood : Bool) (frames : Frames) (c : Tree) (r : Registers) (store : Store) (known : List ℕ)
        (copies : List Value) → i < callee → Ready callee unit stood frames c r → Senses W callee unit known store copies c →
        Fails W rank callee 0 c store → executes.PassTraps W rank slots clear callee 0 frames store copies r
    cut callee unit stood frames c r store known copies later ready senses fail =
        execute.fails W rank slots clear callee unit stood 0 frames c store known copies r (given callee unit ready.is)
        (further callee unit stood later ready.is) fail ready.stands ready.pass_invariant ready.standing senses

    -- only what is inside the call has other frames
    call_changes : (Here : Source → Type 0) (place : Source) (callee : ℕ) (counters : ℕ → ℕ) (frames inner : Frames) → Here place →
        callee_of W i place ≡ Some callee → ChangeOnly (Inside W callee) frames inner →
        ChangeOnly (Touched W i Here) frames (with_at callee counters inner)
    call_changes Here place callee counters frames inner stands called change k outside j =
        with_other k callee counters inner (λ is. outside (touched (subst (λ x. Inside W callee x) (sym is) itself))) j
        ∙ change k (λ within. outside (touched within)) j
      where
        touched : Inside W callee k → Touched W i Here k
        touched inside = record { place = place; runs = stands; callee = callee; called = called; inside = inside }

    -- what a call's turn asks, and leaves
    call_seen : (Here : Source → Type 0) (known : List ℕ) (n : Node) (store left : Store) → declared_at n ≡ [] →
        ((x : ℕ) → IsAmongVariables (prevs_at n) x → IsAmongVariables known x) → Framed W left → Passing W i home_unit Here [] store left →
        SeenTurn W i home_unit known n store left
    call_seen Here known n store left none asked framed passing = record {
      asked = asked;
      bound = λ x at. absurd (none_among x (subst (λ ds. IsAmongVariables ds x) none at));
      framed = framed;
      leaves = passing.leaves;
      own = λ x local other. passing.own x local (λ at. none_among x at);
      declared = λ x local at. absurd (none_among x (subst (λ ds. IsAmongVariables ds x) none at));
    }

    -- the store that its pass leaves
    call_passing : (place : Source) (callee : ℕ) (inputs : List Expr) (store fed left : Store) → callee_of W i place ≡ Some callee →
        DeedYields W (deed i place (Copies callee inputs)) store true fed → InstanceChanges W callee fed left →
        Passing W i home_unit (λ p. place ≡ p) [] store left
    call_passing place callee inputs store fed left called does leaves =
        chained structs units program nest deeds own_seen i home_unit here (λ p. place ≡ p) store fed left
        (copies_passing structs units program nest deeds own_seen i home_unit here place callee inputs store true fed called does)
        (pass_passing structs units program nest deeds own_seen i home_unit here (λ p. place ≡ p) place callee fed left refl called leaves)

    -- nothing is touched by a branch and by another one
    touch_apart : (body : Block) (rest : Bodies) (k : ℕ) →
        ((place : Source) → SomeIn (RunsAt place) body → SomeInEach (RunsAt place) rest → ⊥) →
        Touched W i (λ place. SomeIn (RunsAt place) body) k → Touched W i (λ place. SomeInEach (RunsAt place) rest) k → ⊥
    touch_apart body rest k apart one two =
        let same : one.callee ≡ two.callee =
        nest.apart i one.callee two.callee k one.place two.place one.called two.called one.inside two.inside in
        let place : one.place ≡ two.place =
        one_place W i two.callee one.place two.place (one.called ∙ ap Some same) two.called in
        apart two.place (subst (λ p. SomeIn (RunsAt p) body) place one.runs) two.runs

    -- ---- turns

    record Made (c : Tree) (store : Store) (n : Node) (c' : Tree) (left : Store) (frames : Frames) (known : List ℕ) : Type 0 where
      done : List AnsweredDeed
      turn : Turns W rank i c done n c'
      inner : Frames
      performs : Performs W rank slots clear i n frames store (answer_of turn) inner left
      kept : Kept W slots inner c c'
      change : ChangeOnly (Touched W i (λ place. RunsIn place c)) frames inner
      seen : SeenTurn W i home_unit known n store left
      next : (x : ℕ) → IsAmongVariables (next_declared c) x → IsAmongVariables (declared_at n) x
      asks : Asks W i home_unit (declared_at n ++ known) c'
      due : (j : ℕ) → DueIn W c' j → DueIn W c j × (slice_get left j ≡ slice_get store j)
      stays : (j : ℕ) → InCall W i j → (Touched W i (λ place. RunsIn place c) j → ⊥) → slice_get left j ≡ slice_get store j

    record OneMade (bodies : Bodies) (branches : Trees) (store : Store) (n : Node) (branches' : Trees) (left : Store) (frames : Frames)
        (known : List ℕ) : Type 0 where
      done : List AnsweredDeed
      turn : OneTurns W rank i branches done n branches'
      inner : Frames
      performs : Performs W rank slots clear i n frames store (one_answer_of turn) inner left
      holds : AllCallsMatchTree slots inner branches'
      rests : AllCallsRest W slots branches'
      apart : EachRunsApart bodies branches'
      runs : (place : Source) → OneRunsIn place branches' → OneRunsIn place branches
      change : ChangeOnly (Touched W i (λ place. OneRunsIn place branches)) frames inner
      seen : SeenTurn W i home_unit known n store left
      asks : EachAsks W i home_unit (declared_at n ++ known) branches'
      due : (j : ℕ) → OneDueIn W branches' j → OneDueIn W branches j × (slice_get left j ≡ slice_get store j)
      stays : (j : ℕ) → InCall W i j → (Touched W i (λ place. OneRunsIn place branches) j → ⊥) → slice_get left j ≡ slice_get store j

    later_than : (callee : ℕ) (place : Source) → callee_of W i place ≡ Some callee → i < callee
    later_than callee place called = nest.later i callee place called

    mutual
      perform : {c : Tree} {store : Store} {n : Node} {c' : Tree} {left : Store} → TurnSteps W rank i c store n c' left → (g : Place) →
          FitsGraph W i c g →
          (frames : Frames) → CallsMatchTree slots frames c → CallsRest W slots c → RunsApart c → (known : List ℕ) → Framed W store →
          Asks W i home_unit known c → ((j : ℕ) → DueIn W c j → Fresh W store j) → Made c store n c' left frames known
      perform {c} {store} (follows.point {d = d} {a = a} {n = n} {c' = c'} {left = left} p does) g live frames holds rests apart known framed asks
          fresh =
          let own = points W i c d a n c' p in
          let acted : DeedYields W (deed_at i n) store d left = subst (λ x. DeedYields W x store d left) own.0 does in
          let asked = ask.points W i home_unit known c d a n c' p asks in
          let leaves =
          node_leaves structs units program nest deeds own_seen i home_unit here (λ place. ⊥) n store d left own.1 framed acted in record {
            done = did a d;
            turn = turns.point p;
            inner = frames;
            performs = executes.does own.1 acted;
            kept = point_kept p slots frames holds rests apart;
            change = λ k outside j. refl;
            seen = record {
              asked = asked.asked;
              bound = asked.bound;
              framed = leaves.framed;
              leaves = leaves.passing.leaves;
              own = leaves.passing.own;
              declared = leaves.declared;
            };
            next = asked.next;
            asks = asked.asks;
            due = λ j h. (
              asked.due j h,
              leaves.passing.stays j
                  (in_call W i (λ place. RunsIn place c) j (due_touches W i c g j live (asked.due j h))) (λ t. t.runs),
            );
            stays = λ j call untouched. leaves.passing.stays j call (λ t. t.runs);
          }
      perform (follows.runs {l = l} {at = at} {target = target} {a = a} {inputs = inputs} {outputs = outputs} {callee = callee} {unit = unit}
          {store = store} {given = fed} {c = t} {left = left} called is does follow unended) g live frames holds rests apart known framed asks fresh =
          let fit : (other : UnitDef) → unit_at W callee ≡ Some other →
          InputsFit (length inputs) other = λ other at. asks.1 callee other called at in
          let one = made callee unit false (clear callee frames) (do_block (plain_body unit.body)) (begun_registers rank callee unit) fed []
          (view_at W fed callee).now t left (later_than callee at called) (begun_ready (clear callee frames) callee unit is)
          (begun_senses callee unit fed is (fed_framed at callee inputs store fed does fit framed)) follow in
          let by = passed follow in
          let held = nested.holds slots one.inner callee t false (plain_body unit.body) one.registers.counters one.standing.lives
          one.standing.holds (one.counters unended) in
          let passing = call_passing at callee inputs store fed left called does one.leaves in record {
            done = did (deed i at (Copies callee inputs)) true ++ by.done;
            turn = turns.runs called is by.passes unended;
            inner = with_at callee one.registers.counters one.inner;
            performs = executes.enters {arguments = arguments_of target inputs outputs} called is does one.executes (one.over ∙ unended);
            kept = record {
              holds = held;
              rests = (record { unit = unit; is = is; stands = one.stands }, one.standing.rests);
              apart = one.standing.apart;
              runs = λ place h. h;
            };
            change = call_changes (λ place. at ≡ place) at callee one.registers.counters frames one.inner refl called
                (λ k outside j. one.change k (λ call. outside (inside_callee W callee k call)) j ∙ clears callee frames k outside j);
            seen = call_seen (λ place. at ≡ place) known (EnterAt l at (arguments_of target inputs outputs)) store left refl
                (known_so known (prevs_in_inputs inputs) asks.0) one.framed passing;
            next = λ x at. absurd (none_among x at);
            asks = (
              asks.0,
              λ other is'. (
                fit other is',
                subst (λ (u : UnitDef). Asks W callee u (locals u) t) (one_some unit other (unit_at W callee) is is') one.asks,
              ),
            );
            due = λ j h. absurd h;
            stays = passing.stays;
          }
      perform (follows.resumes {s = s} {callee = callee} {stood = stood} {c = c} {store = store} {given = fed} {c' = t} {left = left} does follow
          unended) g live frames holds rests apart known framed asks fresh =
          let fit : (other : UnitDef) → unit_at W callee ≡ Some other →
          InputsFit (length s.arguments.inputs) other = λ other at. (asks.1 other at).0 in
          let one = made callee live.0 stood frames c (resumed_registers frames callee) fed (locals live.0) (view_at W fed callee).now t left
          (later_than callee s.place live.2.called)
          (resumed_ready frames callee live.0 stood c live.2.is live.1 holds.0 holds.1 rests.0 rests.1 apart)
          (resumed_senses callee live.0 stood c s.place s.arguments.inputs store fed live.2.called live.2.is live.1 does fit
          (asks.1 live.0 live.2.is).1 framed fresh) follow in
          let by = passed follow in
          let held = nested.holds slots one.inner callee t stood (plain_body live.0.body) one.registers.counters one.standing.lives
          one.standing.holds (one.counters unended) in
          let passing = call_passing s.place callee s.arguments.inputs store fed left live.2.called does one.leaves in record {
            done = did (deed i s.place (Copies callee s.arguments.inputs)) true ++ by.done;
            turn = turns.resumes by.passes unended;
            inner = with_at callee one.registers.counters one.inner;
            performs = subst (λ b. Performs W rank slots clear i (run_node b s.label s.place s.arguments) frames store false
                (with_at callee one.registers.counters one.inner) left) (sym live.2.has_stood)
                (executes.resumes live.2.called (resumed_counts frames callee live.0 c live.2.is holds.0 rests.0) does one.executes
                (one.over ∙ unended));
            kept = record {
              holds = held;
              rests = (record { unit = live.0; is = live.2.is; stands = one.stands }, one.standing.rests);
              apart = one.standing.apart;
              runs = λ place h. h;
            };
            change = call_changes (λ place. s.place ≡ place) s.place callee one.registers.counters frames one.inner refl live.2.called
                (λ k outside j. one.change k (λ call. outside (inside_callee W callee k call)) j);
            seen = call_seen (λ place. s.place ≡ place) known (run_node stood s.label s.place s.arguments) store left
                (run_declares stood s.label s.place s.arguments) (run_asked stood s.label s.place s.arguments known asks.0) one.framed passing;
            next = λ x at. absurd (none_among x at);
            asks = subst (λ ds. Asks W i home_unit (ds ++ known) (Run s callee Body stood t))
                (sym (run_declares stood s.label s.place s.arguments)) (
                  asks.0,
                  λ other is'. (
                    fit other is',
                    subst (λ (u : UnitDef). Asks W callee u (locals u) t) (one_some live.0 other (unit_at W callee) live.2.is is') one.asks,
                  ),
                );
            due = λ j h. absurd h;
            stays = passing.stays;
          }
      perform (follows.returns {s = s} {callee = callee} {stood = stood} {c = c} {store = store} {given = fed} {ended = over} {left = left} does
          follow gives) g live frames holds rests apart known framed asks fresh =
          let fit : (other : UnitDef) → unit_at W callee ≡ Some other →
          InputsFit (length s.arguments.inputs) other = λ other at. (asks.1 other at).0 in
          let one = made callee live.0 stood frames c (resumed_registers frames callee) fed (locals live.0) (view_at W fed callee).now Nil over
          (later_than callee s.place live.2.called)
          (resumed_ready frames callee live.0 stood c live.2.is live.1 holds.0 holds.1 rests.0 rests.1 apart)
          (resumed_senses callee live.0 stood c s.place s.arguments.inputs store fed live.2.called live.2.is live.1 does fit
          (asks.1 live.0 live.2.is).1 framed fresh) follow in
          let by = passed follow in
          let passing : Passing W i home_unit (λ place. s.place ≡ place) [] store left =
          chained structs units program nest deeds own_seen i home_unit here (λ place. s.place ≡ place) store over left
          (call_passing s.place callee s.arguments.inputs store fed over live.2.called does one.leaves)
          (deed_passing structs units program nest deeds own_seen i home_unit here (λ place. s.place ≡ place) s.place
          (Gives callee s.arguments.target)
          over true left gives (λ j to. absurd to)) in record {
            done = did (deed i s.place (Copies callee s.arguments.inputs)) true
                ++ (by.done ++ did (deed i s.place (Gives callee s.arguments.target)) true);
            turn = turns.returns by.passes;
            inner = with_at callee one.registers.counters one.inner;
            performs = subst (λ b. Performs W rank slots clear i (run_node b s.label s.place s.arguments) frames store true
                (with_at callee one.registers.counters one.inner) left) (sym live.2.has_stood)
                (executes.returns live.2.called (resumed_counts frames callee live.0 c live.2.is holds.0 rests.0) does one.executes one.over gives);
            kept = ended W slots (with_at callee one.registers.counters one.inner) (Run s callee Check stood c);
            change = call_changes (λ place. s.place ≡ place) s.place callee one.registers.counters frames one.inner refl live.2.called
                (λ k outside j. one.change k (λ call. outside (inside_callee W callee k call)) j);
            seen = call_seen (λ place. s.place ≡ place) known (run_node stood s.label s.place s.arguments) store left
                (run_declares stood s.label s.place s.arguments) (run_asked stood s.label s.place s.arguments known asks.0)
                (deeds.framed W i s.place (Gives callee s.arguments.target) over true left gives tt one.framed) passing;
            next = λ x at. absurd (none_among x at);
            asks = tt;
            due = λ j h. absurd h;
            stays = passing.stays;
          }
      perform (follows.in_seq {c = c} {s = s} {rest = rest} {n = n} {c' = t} turn) g live frames holds rests apart known framed asks fresh =
          let one = perform turn (ahead_of (entry s) g) live.0 frames holds rests apart.0 known framed asks.0 fresh in record {
            done = one.done;
            turn = turns.in_seq one.turn;
            inner = one.inner;
            performs = one.performs;
            kept = seq_kept W slots one.inner c t s rest apart.1 one.kept;
            change = widen (Touched W i (λ place. RunsIn place c)) (Touched W i (λ place. RunsIn place (Seq c (Then s rest)))) frames one.inner
                (λ k. touch W i (λ place. RunsIn place c) (λ place. RunsIn place (Seq c (Then s rest))) k (λ place x. inl x)) one.change;
            seen = one.seen;
            next = λ x at. absurd (none_among x at);
            asks = ask.follows W i home_unit known c n t s rest one.next asks.1 one.asks;
            due = λ j h. one.due j (ask.follows_due W t s rest j h);
            stays = λ j call untouched. one.stays j call
                (λ x. untouched (touch W i (λ place. RunsIn place c) (λ place. RunsIn place (Seq c (Then s rest))) j (λ place y. inl y) x));
          }
      perform (follows.in_par {s = s} {stood = stood} {branches = branches} {branches' = others} turn) g live frames holds rests apart known framed
          asks fresh =
          let one = one_perform turn s s.bodies stood g live.0 frames holds rests apart.0 apart.2 known framed asks fresh in record {
            done = one.done;
            turn = turns.in_par one.turn;
            inner = one.inner;
            performs = one.performs;
            kept = record {
              holds = one.holds;
              rests = one.rests;
              apart = (apart.0, apart.1, one.apart);
              runs = λ place h. par_runs s.bodies branches others place (one.runs place) h;
            };
            change = widen (Touched W i (λ place. OneRunsIn place branches)) (Touched W i (λ place. RunsIn place (Par s stood branches))) frames
                one.inner (λ k. touch W i (λ place. OneRunsIn place branches) (λ place. RunsIn place (Par s stood branches)) k (λ place x. inr x))
                one.change;
            seen = one.seen;
            next = λ x at. absurd (none_among x at);
            asks = one.asks;
            due = one.due;
            stays = λ j call untouched. one.stays j call (λ x. untouched
                (touch W i (λ place. OneRunsIn place branches) (λ place. RunsIn place (Par s stood branches)) j (λ place y. inr y) x));
          }
      perform (follows.in_guard {s = s} {stood = stood} {c = c} {n = n} {c' = t} turn) g live frames holds rests apart known framed asks fresh =
          let one = perform turn (guarded s g) live.0 frames holds rests apart.1 known framed asks.1.1 fresh in
          let wider = ask.more W i home_unit known (declared_at n ++ known) (Guard s Body stood c) (λ x at. among_right x (declared_at n) known at)
          asks in record {
            done = one.done;
            turn = turns.in_guard one.turn;
            inner = one.inner;
            performs = one.performs;
            kept = record {
              holds = one.kept.holds;
              rests = one.kept.rests;
              apart = (apart.0, one.kept.apart);
              runs = λ place h. guard_runs s.body c t place (one.kept.runs place) h;
            };
            change = widen (Touched W i (λ place. RunsIn place c)) (Touched W i (λ place. RunsIn place (Guard s Body stood c))) frames one.inner
                (λ k. touch W i (λ place. RunsIn place c) (λ place. RunsIn place (Guard s Body stood c)) k (λ place x. inr x)) one.change;
            seen = one.seen;
            next = λ x at. absurd (none_among x at);
            asks = (wider.0, (wider.1.0, one.asks));
            due = one.due;
            stays = λ j call untouched. one.stays j call
                (λ x. untouched (touch W i (λ place. RunsIn place c) (λ place. RunsIn place (Guard s Body stood c)) j (λ place y. inr y) x));
          }

      one_perform : {branches : Trees} {store : Store} {n : Node} {branches' : Trees} {left : Store} →
          OneTurnSteps W rank i branches store n branches' left → (s : Fork) (bodies : Bodies) (stood : Bool) (g : Place) →
          AllFitGraph W i branches bodies stood g → (frames : Frames) → AllCallsMatchTree slots frames branches → AllCallsRest W slots branches →
          RunApart bodies → EachRunsApart bodies branches → (known : List ℕ) → Framed W store → EachAsks W i home_unit known branches →
          ((j : ℕ) → OneDueIn W branches j → Fresh W store j) → OneMade bodies branches store n branches' left frames known
      one_perform (follows.first turn) s Last stood g live frames holds rests apart each known framed asks fresh = absurd live
      one_perform (follows.later turn) s Last stood g live frames holds rests apart each known framed asks fresh = absurd live
      one_perform (follows.first {weak = weak} {c = c} {others = others} {n = n} {c' = t} turn) s
          (BodyOf weak' body rest) stood g live frames holds rests
          apart each known framed asks fresh =
          let one = perform turn (in_branch stood body g) live.0 frames holds.0 rests.0 each.1 known framed asks.0
          (λ j h. fresh j (inl h)) in record {
            done = one.done;
            turn = turns.first one.turn;
            inner = one.inner;
            performs = one.performs;
            holds = (
              one.kept.holds,
              nested.others slots frames one.inner (Par s stood others)
                  (λ k h. one.change k (λ x. touch_apart body rest k apart.0
                  (touch W i (λ place. RunsIn place c) (λ place. SomeIn (RunsAt place) body) k each.0 x)
                  (touch W i (λ place. OneRunsIn place others) (λ place. SomeInEach (RunsAt place) rest) k
                  (λ place. branch_runs rest others place each.2)
                  (each_touch structs units program nested i others rest stood g k live.2 h)))) holds.1,
            );
            rests = (one.kept.rests, rests.1);
            apart = (λ place h. each.0 place (one.kept.runs place h), one.kept.apart, each.2);
            runs = λ place h. first_runs c t others place (one.kept.runs place) h;
            change = widen (Touched W i (λ place. RunsIn place c)) (Touched W i (λ place. OneRunsIn place (beside weak c others))) frames one.inner
                (λ k. touch W i (λ place. RunsIn place c) (λ place. OneRunsIn place (beside weak c others)) k (λ place x. inl x)) one.change;
            seen = one.seen;
            asks = (
              one.asks,
              ask.more W i home_unit known (declared_at n ++ known) (Par s stood others) (λ x at. among_right x (declared_at n) known at) asks.1,
            );
            due = λ j h. by_sum h (λ x. (inl (one.due j x).0, (one.due j x).1))
                (λ y. (
                  inr y,
                  one.stays j
                      (in_call W i (λ place. OneRunsIn place others) j (one_due_touches W i others rest stood g j live.2 y))
                      (λ x. touch_apart body rest j apart.0
                      (touch W i (λ place. RunsIn place c) (λ place. SomeIn (RunsAt place) body) j each.0 x)
                      (touch W i (λ place. OneRunsIn place others) (λ place. SomeInEach (RunsAt place) rest) j
                      (λ place. branch_runs rest others place each.2) (one_due_touches W i others rest stood g j live.2 y))),
                ));
            stays = λ j call untouched. one.stays j call
                (λ x. untouched (touch W i (λ place. RunsIn place c) (λ place. OneRunsIn place (beside weak c others)) j (λ place y. inl y) x));
          }
      one_perform (follows.later {weak = weak} {c = c} {others = others} {n = n} {others' = after} turn) s
          (BodyOf weak' body rest) stood g live frames
          holds rests apart each known framed asks fresh =
          let one = one_perform turn s rest stood g live.2 frames holds.1 rests.1 apart.1 each.2 known framed asks.1
          (λ j h. fresh j (inr h)) in record {
            done = one.done;
            turn = turns.later one.turn;
            inner = one.inner;
            performs = one.performs;
            holds = (
              nested.others slots frames one.inner c
                  (λ k h. one.change k (λ x. touch_apart body rest k apart.0
                  (touch W i (λ place. RunsIn place c) (λ place. SomeIn (RunsAt place) body) k each.0
                  (calls_touch structs units program nested i c (in_branch stood body g) k live.0 h))
                  (touch W i (λ place. OneRunsIn place others) (λ place. SomeInEach (RunsAt place) rest) k
                  (λ place. branch_runs rest others place each.2) x))) holds.0,
              one.holds,
            );
            rests = (rests.0, one.rests);
            apart = (each.0, each.1, one.apart);
            runs = λ place h. later_runs c others after place (one.runs place) h;
            change = widen (Touched W i (λ place. OneRunsIn place others)) (Touched W i (λ place. OneRunsIn place (beside weak c others))) frames
                one.inner (λ k. touch W i (λ place. OneRunsIn place others) (λ place. OneRunsIn place (beside weak c others)) k
                (λ place x. inr x))
                one.change;
            seen = one.seen;
            asks = (
              ask.more W i home_unit known (declared_at n ++ known) c (λ x at. among_right x (declared_at n) known at) asks.0,
              one.asks,
            );
            due = λ j h. by_sum h (λ x. (
              inl x,
              one.stays j
                  (in_call W i (λ place. RunsIn place c) j (due_touches W i c (in_branch stood body g) j live.0 x))
                  (λ y. touch_apart body rest j apart.0
                  (touch W i (λ place. RunsIn place c) (λ place. SomeIn (RunsAt place) body) j each.0
                  (due_touches W i c (in_branch stood body g) j live.0 x))
                  (touch W i (λ place. OneRunsIn place others) (λ place. SomeInEach (RunsAt place) rest) j
                  (λ place. branch_runs rest others place each.2) y)),
            )) (λ y. (inr (one.due j y).0, (one.due j y).1));
            stays = λ j call untouched. one.stays j call (λ x. untouched
                (touch W i (λ place. OneRunsIn place others) (λ place. OneRunsIn place (beside weak c others)) j (λ place y. inr y) x));
          }

    -- ---- turns that trap

    -- what a node asks for whose turn traps is known
    mutual
      asked_there : {c : Tree} {store : Store} {n : Node} → TurnTraps W rank i c store n → (known : List ℕ) → Asks W i home_unit known c →
          (x : ℕ) →
          IsAmongVariables (prevs_at n) x → IsAmongVariables known x
      asked_there {c} (follows.point_traps {d = d} {a = a} {n = n} {c' = t} p none) known asks =
          (ask.points W i home_unit known c d a n t p asks).asked
      asked_there (follows.inputs_trap {inputs = inputs} called none) known asks = known_so known (prevs_in_inputs inputs) asks.0
      asked_there (follows.run_traps {inputs = inputs} called is does fail) known asks = known_so known (prevs_in_inputs inputs) asks.0
      asked_there (follows.copy_traps {s = s} {stood = stood} none) known asks = run_asked stood s.label s.place s.arguments known asks.0
      asked_there (follows.resume_traps {s = s} {stood = stood} does fail) known asks = run_asked stood s.label s.place s.arguments known asks.0
      asked_there (follows.seq_traps one) known asks = asked_there one known asks.0
      asked_there (follows.par_traps one) known asks = one_asked one known asks
      asked_there (follows.guard_traps one) known asks = asked_there one known asks.1.1

      one_asked : {branches : Trees} {store : Store} {n : Node} → OneTurnTraps W rank i branches store n → (known : List ℕ) →
          EachAsks W i home_unit known branches → (x : ℕ) → IsAmongVariables (prevs_at n) x → IsAmongVariables known x
      one_asked (follows.first_traps one) known asks = asked_there one known asks.0
      one_asked (follows.later_traps one) known asks = one_asked one known asks.1

    mutual
      stop : {c : Tree} {store : Store} {n : Node} → TurnTraps W rank i c store n → (g : Place) → FitsGraph W i c g → (frames : Frames) →
          CallsMatchTree slots frames c → CallsRest W slots c → RunsApart c → (known : List ℕ) → Framed W store →
          Asks W i home_unit known c →
          ((j : ℕ) → DueIn W c j → Fresh W store j) → NodeTraps W rank slots clear i n frames store
      stop {c} {store} (follows.point_traps {d = d} {a = a} {n = n} {c' = t} p none) g live frames holds rests apart known framed asks fresh =
          let own = points W i c d a n t p in executes.point_stops own.1 (subst (λ x. done_by W x store ≡ None) own.0 none)
      stop (follows.inputs_trap {target = target} {inputs = inputs} {outputs = outputs} called none) g live frames holds rests apart known framed asks
          fresh = executes.inputs_stop {arguments = arguments_of target inputs outputs} called none
      stop {store = store} (follows.run_traps {at = at} {target = target} {inputs = inputs} {outputs = outputs} {callee = callee} {unit = unit}
          {given = fed} called is does fail) g live frames holds rests apart known framed asks fresh =
          executes.begun_stops {arguments = arguments_of target inputs outputs} called is does
          (cut callee unit false (clear callee frames) (do_block (plain_body unit.body)) (begun_registers rank callee unit) fed []
          (view_at W fed callee).now (later_than callee at called) (begun_ready (clear callee frames) callee unit is)
          (begun_senses callee unit fed is
          (fed_framed at callee inputs store fed does (λ other is'. asks.1 callee other called is') framed)) fail)
      stop {store = store} (follows.copy_traps {s = s} {callee = callee} none) g live frames holds rests apart known framed asks fresh =
          subst (λ b. NodeTraps W rank slots clear i (run_node b s.label s.place s.arguments) frames store) (sym live.2.has_stood)
          (executes.copies_stop live.2.called none)
      stop {store = store} (follows.resume_traps {s = s} {callee = callee} {stood = stood} {c = c} {given = fed} does fail) g live frames holds rests
          apart known framed asks fresh =
          subst (λ b. NodeTraps W rank slots clear i (run_node b s.label s.place s.arguments) frames store) (sym live.2.has_stood)
          (executes.resumed_stops live.2.called (resumed_counts frames callee live.0 c live.2.is holds.0 rests.0) does
          (cut callee live.0 stood frames c (resumed_registers frames callee) fed (locals live.0) (view_at W fed callee).now
          (later_than callee s.place live.2.called)
          (resumed_ready frames callee live.0 stood c live.2.is live.1 holds.0 holds.1 rests.0 rests.1 apart)
          (resumed_senses callee live.0 stood c s.place s.arguments.inputs store fed live.2.called live.2.is live.1 does
          (λ other is'. (asks.1 other is').0) (asks.1 live.0 live.2.is).1 framed fresh) fail))
      stop (follows.seq_traps {s = s} one) g live frames holds rests apart known framed asks fresh =
          stop one (ahead_of (entry s) g) live.0 frames holds rests apart.0 known framed asks.0 fresh
      stop (follows.par_traps {s = s} {stood = stood} one) g live frames holds rests apart known framed asks fresh =
          one_stops one s.bodies stood g live.0 frames holds rests apart.2 known framed asks fresh
      stop (follows.guard_traps {s = s} one) g live frames holds rests apart known framed asks fresh =
          stop one (guarded s g) live.0 frames holds rests apart.1 known framed asks.1.1 fresh

      one_stops : {branches : Trees} {store : Store} {n : Node} → OneTurnTraps W rank i branches store n →
          (bodies : Bodies) (stood : Bool) (g : Place) →
          AllFitGraph W i branches bodies stood g → (frames : Frames) → AllCallsMatchTree slots frames branches → AllCallsRest W slots branches →
          EachRunsApart bodies branches → (known : List ℕ) → Framed W store → EachAsks W i home_unit known branches →
          ((j : ℕ) → OneDueIn W branches j → Fresh W store j) → NodeTraps W rank slots clear i n frames store
      one_stops (follows.first_traps one) Last stood g live frames holds rests each known framed asks fresh = absurd live
      one_stops (follows.later_traps one) Last stood g live frames holds rests each known framed asks fresh = absurd live
      one_stops (follows.first_traps one) (BodyOf weak body rest) stood g live frames holds rests each known framed asks fresh =
          stop one (in_branch stood body g) live.0 frames holds.0 rests.0 each.1 known framed asks.0 (λ j h. fresh j (inl h))
      one_stops (follows.later_traps one) (BodyOf weak body rest) stood g live frames holds rests each known framed asks fresh =
          one_stops one rest stood g live.2 frames holds.1 rests.1 each.2 known framed asks.1 (λ j h. fresh j (inr h))

    -- ---- all turns of the instance

    turns_perform : (stood : Bool) → TurnsPerform W rank slots clear i home_unit stood
    turns_perform stood = record {
      takes = λ frames c store known copies n c' left standing senses turn.
          (let one = perform turn (whole stood (plain_body home_unit.body)) standing.lives frames standing.holds standing.rests standing.apart known
          senses.framed senses.asks senses.fresh in record {
            done = one.done;
            turn = one.turn;
            inner = one.inner;
            sees = sees_so W i home_unit known n store copies c senses one.seen.asked;
            performs = one.performs;
            change = widen (Touched W i (λ place. RunsIn place c)) (InCall W i) frames one.inner (λ k. in_call W i (λ place. RunsIn place c) k)
                one.change;
            standing = record {
              lives = walk_live keep_live stood (plain_body home_unit.body) (given i home_unit here).paces callable
                  (walks.turns W rank i c one.done n c' one.turn) standing.lives;
              holds = one.kept.holds;
              rests = one.kept.rests;
              apart = one.kept.apart;
            };
            known = declared_at n ++ known;
            senses = next_senses W i home_unit known n store left copies c c' here senses one.seen one.asks one.due;
            leaves = one.seen.leaves;
          });
      breaks = λ frames c store known copies n standing senses one. (
        waits_there waiting one None,
        (
          sees_so W i home_unit known n store copies c senses (asked_there one known senses.asks),
          stop one (whole stood (plain_body home_unit.body)) standing.lives frames standing.holds standing.rests standing.apart known senses.framed
              senses.asks senses.fresh,
        ),
      );
    }

  -- ---- all instances: a callee has a greater number than its caller

  all_perform : (limit i : ℕ) (unit : UnitDef) (stood : Bool) → length W.instances ≤ limit + i → unit_at W i ≡ Some unit →
      TurnsPerform W rank slots clear i unit stood
  all_perform zero i unit stood enough is = let within : i < length W.instances = there W i unit is in absurd (omega arith)
  all_perform (suc limit) i unit stood enough is =
      turns_perform i unit is (λ callee unit' stood' later is'. all_perform limit callee unit' stood' (omega arith) is') stood

  pub perform_all : (i : ℕ) (unit : UnitDef) (stood : Bool) → unit_at W i ≡ Some unit → TurnsPerform W rank slots clear i unit stood
  perform_all i unit stood is = all_perform (length W.instances) i unit stood (omega arith) is

pub all_turns_perform : AcceptedRunsApart → ProgramsNest → BodiesFitGraph → ProgramsAreCallable → StepsKeepFitsGraph → TurnsAreWalks →
    TurnsWait →
    WakingKeepsNumbers → PassesExecute → PointsAreOfNodes → AllFramesNest → PassesBegin → TreesFitBodies → FirstCounterTells →
    DeedsAreSeen →
    OwnIsSeen → TreesAsk → BodiesAsk → AllTurnsPerform
all_turns_perform apart nests begin_live callable keep_live walks waiting numbers execute points frames begin trees tells deeds own_seen ask
    bodies_ask structs units program rank slots clear i unit stood typed passes from given clears is =
    perform_all apart nests begin_live callable keep_live walks waiting numbers execute points frames begin trees tells deeds own_seen ask bodies_ask
    structs units program rank slots clear typed passes from given clears i unit stood is
