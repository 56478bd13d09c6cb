-- Trees that runs reach with the same numbers are the same once woken.
use Rattle.std.proofs.Common.{◌≡◌, ◌⊎◌, inl, inr, ℕ, zero, suc, ◌+◌, ◌<◌, ◌≤◌, Bool, true, false, not, List, [], ◌∷◌, Contains}
use Rattle.std.proofs.Common.{Some, length, refl, sym, ap, ◌∙◌, subst, arith}
use Rattle.std.specs.Prelude.{ℤ, option_and_then, slice_get}
use Rattle.std.proofs.lemmas.Bool.{not-true}
use Rattle.bl_tree.proofs.Basics.{and_first, and_second, contains_first, contains_mapped, same_some, true_false_any}
use Rattle.bl_tree.specs.declared.place.Place.{Place as Source}
use Rattle.bl_tree.specs.declared.tree.StructDef.{StructDef}
use Rattle.bl_tree.specs.declared.tree.Unit.{Unit as UnitDef}
use Rattle.bl_tree.specs.Program.{IsWellTyped}
use Rattle.bl_effects.specs.Rules.{Passes as UnitsPass}
use Rattle.bl_graph_nodes.specs.Nodes.{Arguments, EnterAt, Node, ResumeAt, arguments_of, entry, nodes_in}
use Rattle.bl_graph_nodes.specs.Plain.{Block, Bodies, Body as BodyOf, Done, Label, Last, Then, plain_body}
use Rattle.bl_ctree.specs.declared.instance.Instance.{Instance}
use Rattle.bl_ctree.specs.Control as control
use Rattle.bl_ctree.specs.Control.{Body, Check, Control}
use Rattle.bl_ctree.specs.Instances.{Setting, callee_of, setting_of, unit_at, unit_of}
use Rattle.bl_ctree.specs.Means.{entry_items}
use Rattle.bl_ctree.specs.Laws.{ReachedIsResidual, WokenTreeIsResidual}
use Rattle.bl_ctree.specs.Reaches.{Reaches}
use Rattle.bl_ctree.specs.Residual.{has_begun}
use Rattle.bl_ctree.specs.Store.{Store}
use Rattle.bl_ctree_laws.specs.Bridge.{plain_tree}
use Rattle.bl_ctree_laws.specs.Laws.{AnswersArePlain, StatementsArePlain, WakingIsPlain}
use Rattle.bl_ctree_laws.specs.Runs.{TicksEndAlikeByPlain, entry_block}
use Rattle.bl_ctree_laws.specs.Trees.{Tree, Trees, Nil, Wait, Test, Idle, Do, Seq, Par, Guard, Run, are_done, are_settled, beside, is_nil, is_settled, no_tree}
use Rattle.bl_ctree_laws.specs.Trees.{woken}
use Rattle.bl_ctree_laws_confluence.specs.Deeds.Nesting.{ProgramsNest}
use Rattle.bl_ctree_laws_confluence.specs.Deeds.Orderly.{AcceptedIsOrderly}
use Rattle.bl_ctree_laws_confluence.specs.Independent.Accepted.{AcceptedIsIndependent}
use Rattle.bl_ctree_laws_plain.specs.Plain.{PlainTreesTell}
use Rattle.bl_ctree_laws_traces.specs.Progress.Accepted.{AcceptedTreesFitGraphs}
use Rattle.bl_ctree_laws_traces.specs.Progress.FitsGraph.{AllFitGraph, FitsGraph}
use Rattle.bl_ctree_laws_traces.specs.Progress.Places.{Place, ahead_of, guarded, in_branch, whole}
use Rattle.bl_ctree_laws_traces.specs.Progress.Reached.{TreeFitsGraph, not_begun, rests}
use Rattle.bl_ctree_laws_traces.proofs.OnBounded.Bounding.{entry_is}
use Rattle.bl_machine.specs.Uses.{Slots}
use Rattle.bl_machine_laws.specs.Passes.Orders.{Orders}
use Rattle.bl_machine_laws.specs.Passes.Ticks.{TicksArePasses}
use Rattle.bl_machine_laws.specs.Traces.Runs.{MachinesHaveOneTrace}
use Rattle.bl_machine_pass.specs.SlotLayout.{SlotsAreDistinct}
use Rattle.bl_machine_pass.specs.Transitions.{Change, Finishes, Rested, SetsCounter, Transition, body_ends, enter, flagged, rules}
use Rattle.bl_machine_pass_laws.specs.Keys.{NodesHaveKeys}
use Rattle.bl_machine_pass_laws.specs.Same.Laws.{NumbersTell, RestsBetweenTicks, StaysResidual}
use Rattle.bl_machine_pass_laws.specs.Same.Residual.{Calls, OneCalls}
use Rattle.bl_machine_pass_laws.specs.Turns.Laws.{StaysPlaced}
use Rattle.bl_machine_pass_laws.specs.Turns.Sits.{SitEach, Sits}
use Rattle.bl_machine_pass_laws_execution.specs.Frames.{AllCallsMatchTree, CallsMatchTree, Frames, FramesMatchTree}
use Rattle.bl_machine_pass_laws_execution.specs.Machines.{MachinesGiveContexts, slots_at}
use Rattle.bl_machine_pass_laws_counters.proofs.Calls.{AllCallsLeft, CallsLeft, Left}
use Rattle.bl_machine_pass_laws_counters.proofs.Reached.{Between, entry_there, reached_stands}
use Rattle.bl_machine_pass_laws_counters.specs.Counters.{HasBegun, NumbersTellTrees}

enter_is : (l : Label) (at at' : Source) (a a' : Arguments) → EnterAt l at a ≡ EnterAt l at' a' → at ≡ at'
enter_is l at at' a a' e = cc

-- an instance of a unit is among the instances
within : (w : Setting) (xs : List Instance) (i : ℕ) (unit : UnitDef) → option_and_then (unit_of w) (slice_get xs i) ≡ Some unit → i < length xs
within w [] i unit e = absurd (cc)
within w (x ∷ xs) zero unit e = omega arith
within w (x ∷ xs) (suc i) unit e = let less = within w xs i unit e in omega arith

-- a callee of an instance that is among the last n + 1 is among the last n
later : (count n i k : ℕ) → count ≤ suc n + i → i < k → count ≤ n + k
later count n i k most less = omega (arith, most, less)

none_left : {A : Type 0} (count i : ℕ) → count ≤ zero + i → i < count → A
none_left count i most less = absurd (omega (arith, most, less))

-- ---- what stands between ticks

module _ (w : Setting) (slots : ℕ → Slots) (frames : Frames) where
  -- the tree of an instance of the unit between ticks, with its numbers and those of all that it calls
  record Side (i : ℕ) (unit : UnitDef) (c : Tree) : Type 0 where
    stood : Bool
    fits : FitsGraph w i c (whole stood (plain_body unit.body))
    settled : is_settled c ≡ true
    unended : is_nil c ≡ false
    left : Left w slots i unit c
    calls : CallsLeft w slots c
    matches : FramesMatchTree slots frames i c

  -- a `run` with the label stands in the tree: one of its rules is among these, and d is the tree of its callee
  record CallThere (i : ℕ) (all : List Transition) (l : Label) (d : Tree) : Type 0 where
    at : Source
    arguments : Arguments
    rule : Transition
    there : Contains all rule
    node : rule.node ≡ EnterAt l at arguments
    callee : ℕ
    called : callee_of w i at ≡ Some callee
    unit : UnitDef
    is : unit_at w callee ≡ Some unit
    side : Side callee unit d

  mutual
    call_there : (i : ℕ) (own : Slots) (all : List Transition) (c : Tree) (g : Place) (next : Change) → FitsGraph w i c g → is_settled c ≡ true →
        Sits own all c next → CallsLeft w slots c → CallsMatchTree slots frames c → (l : Label) (d : Tree) → Calls c l d → CallThere i all l d
    call_there i own all Nil g next fits settled sits calls matches l d h = absurd h
    call_there i own all (Wait s) g next fits settled sits calls matches l d h = absurd h
    call_there i own all (Test s) g next fits settled sits calls matches l d h = absurd h
    call_there i own all (Idle body) g next fits settled sits calls matches l d h = absurd h
    call_there i own all (Do s) g next fits settled sits calls matches l d h = absurd h
    call_there i own all (Seq c Done) g next fits settled sits calls matches l d h = absurd fits
    call_there i own all (Seq c (Then s rest)) g next fits settled sits calls matches l d h =
        call_there i own all c (ahead_of (entry s) g) (enter (Then s rest) next) fits.0 settled sits.0 calls matches l d h
    call_there i own all (Par s stood branches) g next fits settled sits calls matches l d h =
        one_call_there i own all s.label 0 s.bodies branches stood g fits.0 (and_first (are_settled branches) (not (are_done branches)) settled) sits.1
        calls matches l d h
    call_there i own all (Guard s Body stood c) g next fits settled sits calls matches l d h =
        call_there i own all c (guarded s g) (body_ends s.label s.place s.body) fits.0 (and_first (is_settled c) (not (is_nil c)) settled) sits.1 calls
        matches l d h
    call_there i own all (Guard s Check stood c) g next fits settled sits calls matches l d h = true_false_any false settled refl
    call_there i own all (Run s callee Check stood c) g next fits settled sits calls matches l d h = true_false_any false settled refl
    call_there i own all (Run s callee Body stood c) g next fits settled sits calls matches l d h =
        let known = calls.0 in
        let same : fits.0 ≡ known.unit = same_some fits.0 known.unit (sym fits.2.is ∙ known.is) in
        let arguments : Arguments = arguments_of s.arguments.target s.arguments.inputs s.arguments.outputs in
        let rule : Transition = flagged (EnterAt s.label s.place arguments) (SetsCounter (own.rest s.label) ∷ []) in
        let resumes : Transition = record {
          node = ResumeAt s.label s.place arguments;
          condition = Rested (own.rest s.label);
          on_true = next ∷ [];
          on_false = [];
        } in
        subst (λ (m : Label). CallThere i all m d) h.0 (subst (λ (t : Tree). CallThere i all s.label t) h.1 (record {
          at = s.place;
          arguments = arguments;
          rule = rule;
          there = sits rule (contains_first rule (resumes ∷ []));
          node = refl;
          callee = callee;
          called = fits.2.called;
          unit = known.unit;
          is = known.is;
          side = record {
            stood = stood;
            fits = subst (λ (u : UnitDef). FitsGraph w callee c (whole stood (plain_body u.body))) same fits.1;
            settled = and_first (is_settled c) (not (is_nil c)) settled;
            unended = not-true (is_nil c) (and_second (is_settled c) (not (is_nil c)) settled);
            left = known.left;
            calls = calls.1;
            matches = matches;
          };
        }))

    one_call_there : (i : ℕ) (own : Slots) (all : List Transition) (m : Label) (k : ℕ) (bodies : Bodies) (branches : Trees) (stood : Bool) (g : Place) →
        AllFitGraph w i branches bodies stood g → are_settled branches ≡ true → SitEach own all m k bodies branches → AllCallsLeft w slots branches →
        AllCallsMatchTree slots frames branches → (l : Label) (d : Tree) → OneCalls branches l d → CallThere i all l d
    one_call_there i own all m k bodies no_tree stood g fits settled sits calls matches l d h = absurd h
    one_call_there i own all m k Last (beside weak c branches) stood g fits settled sits calls matches l d h = absurd fits
    one_call_there i own all m k (BodyOf weak' body rest) (beside weak c branches) stood g fits settled sits calls matches l d (inl h) =
        call_there i own all c (in_branch stood body g) (SetsCounter (own.ending m k)) fits.0 (and_first (is_settled c) (are_settled branches) settled)
        sits.1 calls.0 matches.0 l d h
    one_call_there i own all m k (BodyOf weak' body rest) (beside weak c branches) stood g fits settled sits calls matches l d (inr h) =
        one_call_there i own all m (suc k) rest branches stood g fits.2 (and_second (is_settled c) (are_settled branches) settled) sits.2 calls.1
        matches.1 l d h

  moved : (k m : ℕ) (u v : UnitDef) (d : Tree) → k ≡ m → unit_at w m ≡ Some u → unit_at w k ≡ Some v → Side k v d → Side m u d
  moved k m u v d e is is' side =
      let units : v ≡ u = same_some v u (sym is' ∙ ap (unit_at w) e ∙ is) in
      subst (λ (x : UnitDef). Side m x d) units (subst (λ (x : ℕ). Side x v d) e side)

-- ---- two trees

module _ (placed : StaysPlaced) (keys : NodesHaveKeys) (tell : NumbersTell) (nest : ProgramsNest) (structs : List StructDef) (units : List UnitDef)
    (program : ℕ) (slots : ℕ → Slots) (frames : Frames)
    (laid : (i : ℕ) (unit : UnitDef) → unit_at (setting_of structs units program) i ≡ Some unit → SlotsAreDistinct (slots i) (plain_body unit.body)) where
  abbrev W : Setting
  W = setting_of structs units program

  abbrev At : ℕ → UnitDef → Label → Tree → Type 0
  At i unit l d = CallThere W slots frames i (rules (slots i) (plain_body unit.body)) l d

  node_there : (i : ℕ) (unit : UnitDef) (l : Label) (d : Tree) (one : At i unit l d) →
      Contains (nodes_in (plain_body unit.body)) (EnterAt l one.at one.arguments)
  node_there i unit l d one =
      subst (Contains (nodes_in (plain_body unit.body))) one.node
      (subst (λ (list : List Node). Contains list one.rule.node) (placed.nodes (slots i) (plain_body unit.body))
      (contains_mapped (λ (rule : Transition). rule.node) (rules (slots i) (plain_body unit.body)) one.rule one.there))

  -- two `run`s of a body with one label stand at one place
  same_place : (i : ℕ) (unit : UnitDef) (l : Label) (d d' : Tree) (one : At i unit l d) (other : At i unit l d') → one.at ≡ other.at
  same_place i unit l d d' one other =
      enter_is l one.at other.at one.arguments other.arguments
      (keys.keys unit.body [] (EnterAt l one.at one.arguments) (EnterAt l other.at other.arguments) (node_there i unit l d one)
      (node_there i unit l d' other) refl refl)

  rests_there : (i : ℕ) (unit : UnitDef) (c : Tree) → Side W slots frames i unit c → RestsBetweenTicks W i (slots i) (plain_body unit.body) c
  rests_there i unit c side = record {
    left = side.left.residual;
    stood = side.stood;
    live = side.fits;
    placed = side.left.placed;
    settled = side.settled;
    unended = side.unended;
  }

  calls_of : (i : ℕ) (unit : UnitDef) (c : Tree) → Side W slots frames i unit c → (l : Label) (d : Tree) → Calls c l d → At i unit l d
  calls_of i unit c side =
      call_there W slots frames i (slots i) (rules (slots i) (plain_body unit.body)) c (whole side.stood (plain_body unit.body)) Finishes side.fits
      side.settled side.left.placed.sits side.calls side.matches.1

  -- trees of one instance are the same once woken; each instance that it calls has a greater number
  same : (n i : ℕ) (unit : UnitDef) → unit_at W i ≡ Some unit → length W.instances ≤ n + i → (c c' : Tree) → Side W slots frames i unit c →
      Side W slots frames i unit c' → woken c ≡ woken c'
  same zero i unit is most c c' one two = none_left (length W.instances) i most (within W W.instances i unit is)
  same (suc n) i unit is most c c' one two =
      tell W i (slots i) unit c c' (laid i unit is) (rests_there i unit c one) (rests_there i unit c' two)
      (λ j. sym (one.matches.0 j) ∙ two.matches.0 j) (λ l d d' here there.
      let first = calls_of i unit c one l d here in
      let second = calls_of i unit c' two l d' there in
      let place : first.at ≡ second.at = same_place i unit l d d' first second in
      let callee : second.callee ≡ first.callee =
      same_some second.callee first.callee (sym second.called ∙ ap (callee_of W i) (sym place) ∙ first.called) in
      let less : i < first.callee = (nest structs units program).later i first.callee first.at first.called in
      same n first.callee first.unit first.is (later (length W.instances) n i first.callee most less) d d' first.side
      (moved W slots frames second.callee first.callee first.unit second.unit d' callee first.is second.is second.side))

-- ---- runs

-- a run that has begun doesn't stand before its first tick
begun_later : {A : Type 0} (w : Setting) (c : Control) → HasBegun c → c ≡ control.Idle (entry_items w) → A
begun_later w c begun is = absurd (subst HasBegun is begun)

module _ (plain : StatementsArePlain) (answers : AnswersArePlain) (alike : TicksEndAlikeByPlain) (orderly : AcceptedIsOrderly) (nest : ProgramsNest)
    (independent : AcceptedIsIndependent) (graphs : AcceptedTreesFitGraphs) (have : TicksArePasses) (keys : NodesHaveKeys) (placed : StaysPlaced)
    (residual : StaysResidual) (tell : NumbersTell) (structs : List StructDef) (units : List UnitDef) (program : ℕ) (rank : ℕ → Node → ℕ)
    (slots : ℕ → Slots) (unit : UnitDef) (keeps : IsWellTyped structs units program) (passes : UnitsPass units)
    (orders : Orders (setting_of structs units program) rank)
    (laid : (i : ℕ) (unit : UnitDef) → unit_at (setting_of structs units program) i ≡ Some unit → SlotsAreDistinct (slots i) (plain_body unit.body))
    (is : unit_at (setting_of structs units program) 0 ≡ Some unit) (frames : Frames) where
  abbrev V : Setting
  V = setting_of structs units program

  abbrev Stands : Tree → Type 0
  Stands = Between plain answers alike orderly independent have placed residual structs units program rank slots unit keeps passes orders laid is

  side_of : (t : Tree) → TreeFitsGraph V (entry_block V) t → Stands t → FramesMatchTree slots frames 0 t → Side V slots frames 0 unit t
  side_of _ not_begun between matches = absurd between.after.calls
  side_of _ (rests stood t settled fits) between matches = record {
    stood = stood;
    fits = subst (λ (body : Block). FitsGraph V 0 t (whole stood body)) (entry_is plain V unit is) fits;
    settled = settled;
    unended = between.unended;
    left = between.after.left;
    calls = between.after.calls;
    matches = matches;
  }

  side_there : (rows : List (List ℤ)) (c : Control) (store : Store) → Reaches V rows c store → HasBegun c →
      FramesMatchTree slots frames 0 (plain_tree c) → Side V slots frames 0 unit (plain_tree c)
  side_there rows c store reached begun matches =
      by_start (reached_stands plain answers alike orderly independent have placed residual structs units program rank slots unit keeps passes orders
      laid is reached)
    where
      by_start : (c ≡ control.Idle (entry_items V)) ⊎ Stands (plain_tree c) → Side V slots frames 0 unit (plain_tree c)
      by_start (inl first) = begun_later V c begun first
      by_start (inr between) = side_of (plain_tree c) ((graphs structs units program keeps passes).trees rows c store reached) between matches

  pub same_trees : (rows others : List (List ℤ)) (c d : Control) (store left : Store) → Reaches V rows c store → Reaches V others d left →
      HasBegun c → HasBegun d → FramesMatchTree slots frames 0 (plain_tree c) → FramesMatchTree slots frames 0 (plain_tree d) →
      woken (plain_tree c) ≡ woken (plain_tree d)
  same_trees rows others c d store left one two begun begun' matches matches' =
      same placed keys tell nest structs units program slots frames laid (length V.instances) 0 unit is (omega arith) (plain_tree c) (plain_tree d)
      (side_there rows c store one begun matches) (side_there others d left two begun' matches')

-- trees whose plain trees are the same once woken are so themselves
woken_same : ReachedIsResidual → WokenTreeIsResidual → WakingIsPlain → PlainTreesTell → (w : Setting) (rows others : List (List ℤ)) (c d : Control)
    (store left : Store) → Reaches w rows c store → Reaches w others d left → woken (plain_tree c) ≡ woken (plain_tree d) →
    control.woken c ≡ control.woken d
woken_same reached whole waking plain w rows others c d store left one two same =
    plain w (control.woken c) (control.woken d) (has_begun (whole w c (reached w rows c store one)))
    (has_begun (whole w d (reached w others d left two)))
    (waking w c (reached w rows c store one) ∙ same ∙ sym (waking w d (reached w others d left two)))

pub numbers_tell_trees : ReachedIsResidual → WokenTreeIsResidual → WakingIsPlain → PlainTreesTell → StatementsArePlain →
    AnswersArePlain → TicksEndAlikeByPlain → AcceptedIsOrderly → ProgramsNest → AcceptedIsIndependent →
    AcceptedTreesFitGraphs → TicksArePasses → MachinesHaveOneTrace → NodesHaveKeys → StaysPlaced → StaysResidual → NumbersTell →
    MachinesGiveContexts → NumbersTellTrees
numbers_tell_trees reached whole waking tells plain answers alike orderly nest independent graphs have traces keys placed residual tell contexts
    accepted machine rows others c d store left keeps is_accepted are one two begun begun' same =
    let program = accepted.program in
    let w : Setting = setting_of program.structs program.units program.entry in
    let positions = traces.positions accepted machine keeps is_accepted are in
    let entry = entry_there program.structs program.units program.entry keeps in
    let context = λ (i : ℕ) (unit : UnitDef) (is : unit_at w i ≡ Some unit).
    contexts.each program.structs program.units program.entry machine positions.rank i unit keeps is_accepted.passes are positions.go_by is in
    woken_same reached whole waking tells w rows others c d store left one two
    (same_trees plain answers alike orderly nest independent graphs have keys placed residual tell program.structs program.units program.entry
    positions.rank (slots_at w machine) entry.0 keeps is_accepted.passes (context 0 entry.0 entry.1).orders (λ i unit is. (context i unit is).laid)
    entry.1 same.frames rows others c d store left one two begun begun' same.first same.second)
