-- A pass over each instance.
use Rattle.std.proofs.Common.{◌≡◌, ◌⊎◌, inl, inr, ⊎_elim, ℕ, zero, suc, ◌+◌, ◌<◌, ◌≤◌, Bool, true, false, List, [], ◌∷◌, ◌++◌, Option, Some, None, length, refl}
use Rattle.std.proofs.Common.{sym, ap, ◌∙◌, subst, arith}
use Rattle.std.specs.Prelude.{Contains, option_and_then, slice_get}
use Rattle.std.proofs.lemmas.Option.{slice_get_within}
use Rattle.bl_tree.proofs.Basics.{true_false_any}
use Rattle.bl_tree.specs.declared.place.Place.{Place as Source}
use Rattle.bl_tree.specs.declared.tree.StructDef.{StructDef}
use Rattle.bl_tree.specs.declared.tree.Unit.{Unit as UnitDef}
use Rattle.bl_graph_nodes.specs.Nodes.{Node, entry, nodes_in}
use Rattle.bl_graph_nodes.specs.Plain.{Block, plain_body}
use Rattle.bl_graph_nodes.specs.Steps.{Here, StepLabel}
use Rattle.bl_graph.specs.Edges.{In}
use Rattle.bl_graph.specs.Laws.{StaysWithin}
use Rattle.bl_ctree.specs.declared.instance.Instance.{Instance}
use Rattle.bl_ctree.specs.Actions.{Copies, Gives, Performed, given_to, result_at}
use Rattle.bl_ctree.specs.Control.{Body}
use Rattle.bl_ctree.specs.Instances.{Setting, callee_of, setting_of, unit_at, unit_of}
use Rattle.bl_ctree.specs.Store.{Store}
use Rattle.bl_ctree_laws.specs.Ends.{done_by}
use Rattle.bl_ctree_laws.specs.Pending.{Deed, deed, may_end}
use Rattle.bl_ctree_laws.specs.Shrinks.{EndsShrink, MovingIsUnsettled, Paces}
use Rattle.bl_ctree_laws.specs.Steps as moves
use Rattle.bl_ctree_laws.specs.Steps.{Anyway, Moves, call}
use Rattle.bl_ctree_laws.specs.Trees.{Call, Tree, Nil, Run, do_block, is_nil, is_settled}
use Rattle.bl_ctree_laws.proofs.Less.{do_ends}
use Rattle.bl_ctree_laws_confluence.specs.Deeds.Nesting.{ProgramsNest}
use Rattle.bl_ctree_laws_traces.specs.Progress.Laws.{BodiesFitGraph, StepsKeepFitsGraph}
use Rattle.bl_ctree_laws_traces.specs.Progress.FitsGraph.{FitsGraph}
use Rattle.bl_ctree_laws_traces.specs.Progress.Places.{AllCallable, whole}
use Rattle.bl_ctree_laws_traces.specs.Ready.Ranks.{Lower, ranks_in}
use Rattle.bl_machine_laws.specs.Numbers.Steps.{TurnsAreWalks, TurnsWait}
use Rattle.bl_machine_laws.specs.Numbers.Turns as turns
use Rattle.bl_machine_laws.specs.Numbers.Turns.{AnsweredDeed, Passes, Turns, did}
use Rattle.bl_machine_laws.specs.Numbers.Waiting.{Waits}
use Rattle.bl_machine_laws.proofs.OnNumbers.Walking.{point_moves}
use Rattle.bl_machine_laws.specs.Waiting.Laws.{TurnsLeadOn, WaitsInPart}
use Rattle.bl_machine_laws.proofs.OnWaiting.Fresh.{ends_walk}
use Rattle.bl_machine_laws.proofs.OnWaiting.Quiet.{something_waits}
use Rattle.bl_machine_laws.specs.Passes.Follows as follows
use Rattle.bl_machine_laws.specs.Passes.Follows.{First, Follows, TurnSteps, TurnTraps}
use Rattle.bl_machine_laws.specs.Passes.Low.{LowSteps, LowTrap, Lowest, on, stay}
use Rattle.bl_machine_laws.specs.Passes.Orders.{Orders}
use Rattle.bl_machine_laws.specs.Passes.Pass.{InstancesHavePasses, PassOrTrap, WaitsFrom, comes_to_end, is_cut}
use Rattle.bl_machine_laws.specs.Passes.Steady.{Steady}
use Rattle.bl_machine_laws.proofs.OnPasses.Calling.{Beyond, call_steps, call_trap, ends_lowest, low_append, one_not_lower, trap_after}
use Rattle.bl_machine_laws.proofs.OnPasses.Finding.{Found, Ready, calls, copies, find, ready_left, simple}
use Rattle.bl_machine_laws.proofs.OnPasses.Holes.{Has, Hole, fill, lift_breaks, lift_moves, lift_takes, lift_turn, unsettled_open}
use Rattle.bl_machine_laws.proofs.OnPasses.Numbers.{Least, after_rises, bound_of, least, least_waits, nothing}
use Rattle.bl_machine_laws.proofs.OnPasses.Points.{PointFails, PointMade, answered, plain_answer, point_over}
use Rattle.bl_machine_laws.proofs.OnPasses.Steadying.{block_steady, candidate, steady_passed, turn_steady}
use Rattle.bl_ctree_laws_traces.proofs.OnProgress.Leading.{is_the_nil}
use Rattle.bl_graph.proofs.Meeting.{lt_of}

-- a turn, and where it leads, each of its steps the lowest
pub record TurnMade (w : Setting) (rank : ℕ → Node → ℕ) (i : ℕ) (c : Tree) (store : Store) (n : Node) : Type 0 where
  pub done : List AnsweredDeed
  pub tree : Tree
  pub left : Store
  pub turn : Turns w rank i c done n tree
  pub steps : LowSteps w rank i c store done tree left
  pub takes : TurnSteps w rank i c store n tree left

pub data TurnOrTrap (w : Setting) (rank : ℕ → Node → ℕ) (i : ℕ) (c : Tree) (store : Store) (n : Node) : Type 0 where
  is_made : TurnMade w rank i c store n → TurnOrTrap w rank i c store n
  traps : LowTrap w rank i c store → TurnTraps w rank i c store n → TurnOrTrap w rank i c store n

-- a called instance has passes
abbrev HasPasses : Setting → (ℕ → Node → ℕ) → ℕ → Type 0
HasPasses w rank callee =
    (unit : UnitDef) (stood : Bool) (c : Tree) (store : Store) → unit_at w callee ≡ Some unit → FitsGraph w callee c (whole stood (plain_body unit.body)) →
    Steady c → PassOrTrap w rank callee 0 c store

-- ---- one turn

module _ (moving : MovingIsUnsettled) (w : Setting) (rank : ℕ → Node → ℕ) (i : ℕ) where
  -- what could act is not lower than a first node
  pub beyond : (c : Tree) (n : Node) → Steady c → First rank i c n → (m : StepLabel) → Has w i c m → Beyond rank i (rank i n) m
  beyond c n steady first m has =
      let one = candidate moving None has.moves steady in record { node = one.node; is = one.is; most = first one.node one.waits }

  pub first_lowest : (c : Tree) (n : Node) → Steady c → First rank i c n → Lowest w rank i c (Here n)
  first_lowest c n steady first d a m c' move low =
      let one = candidate moving None move steady in
      one_not_lower (rank i one.node) (rank i n) [] (first one.node one.waits)
      (subst (λ x. Lower (ranks_in w rank i x) (rank i n ∷ [])) one.is low)

  point_turn : (h : Hole) (t : Tree) (n : Node) (store : Store) → is_nil t ≡ false → Lowest w rank i (fill h t) (Here n) →
      PointMade w i t n store ⊎ PointFails w i t n store → TurnOrTrap w rank i (fill h t) store n
  point_turn h t n store unended lowest (inl made) = is_made (record {
    done = did made.deed made.answer;
    tree = fill h made.after;
    left = made.left;
    turn = lift_turn h t made.after unended (turns.point made.point);
    steps = on (lift_moves h t made.after unended (point_moves made.point)) lowest made.performs stay;
    takes = lift_takes h t made.after unended (follows.point made.point made.performs);
  })
  point_turn h t n store unended lowest (inr failed) = traps (record {
    done = [];
    tree = fill h t;
    left = store;
    steps = stay;
    answer = failed.answer;
    deed = failed.deed;
    label = Here n;
    after = fill h failed.after;
    moves = lift_moves h t failed.after unended (point_moves failed.point);
    lowest = lowest;
    fails = failed.fails;
  }) (lift_breaks h t unended (follows.point_traps failed.point failed.fails))

  -- the inputs are copied, or an expression of them traps; what follows is a turn or a trap
  module _ (h : Hole) (t t' : Tree) (n : Node) (callee : ℕ) (a : Deed) (unended : is_nil t ≡ false) (move : Moves Anyway w i t true a (Here n) t')
      (lowest : Lowest w rank i (fill h t) (Here n)) where
    copied : (store left : Store) → done_by w a store ≡ Some (record { answer = true; store = left }) →
        LowSteps w rank i (fill h t) store (did a true) (fill h t') left
    copied store left performs = on (lift_moves h t t' unended move) lowest performs stay

    copy_turn : (store : Store) → (done_by w a store ≡ None → TurnTraps w rank i t store n) →
        ((p : Performed) → done_by w a store ≡ Some p → p.answer ≡ true) →
        ((left : Store) → done_by w a store ≡ Some (record { answer = true; store = left }) → TurnOrTrap w rank i (fill h t) store n) →
        TurnOrTrap w rank i (fill h t) store n
    copy_turn store breaks plain more = by_answer (done_by w a store) refl
      where
        by_answer : (x : Option Performed) → done_by w a store ≡ x → TurnOrTrap w rank i (fill h t) store n
        by_answer None is = traps (record {
          done = [];
          tree = fill h t;
          left = store;
          steps = stay;
          answer = true;
          deed = a;
          label = Here n;
          after = fill h t';
          moves = lift_moves h t t' unended move;
          lowest = lowest;
          fails = is;
        }) (lift_breaks h t unended (breaks is))
        by_answer (Some p) is = more p.store (answered w a store p true is (plain p is))

-- ---- turns of an instance whose callees have passes

module _ (moving : MovingIsUnsettled) (shrinks : EndsShrink) (lists : TurnsAreWalks) (waiting : TurnsWait) (begins : BodiesFitGraph) (w : Setting)
    (rank : ℕ → Node → ℕ) (paces : Paces w) (callable : AllCallable w) (i : ℕ)
    (inner : (callee : ℕ) (at : Source) → callee_of w i at ≡ Some callee → HasPasses w rank callee) where
  -- a body that begins doesn't end
  lasts : (callee : ℕ) (unit : UnitDef) (done : List AnsweredDeed) (c : Tree) → unit_at w callee ≡ Some unit →
      Passes w rank callee 0 (do_block (plain_body unit.body)) done c → is_nil c ≡ false
  lasts callee unit done c is passes = by_end (is_nil c) refl
    where
      ended : is_nil c ≡ true → may_end c ≡ true
      ended e = ap may_end (is_the_nil c e)

      by_end : (b : Bool) → is_nil c ≡ b → is_nil c ≡ false
      by_end true e =
          true_false_any (may_end (do_block (plain_body unit.body)))
          (ends_walk rank paces shrinks lists waiting (lists.passes w rank callee 0 (do_block (plain_body unit.body)) done c passes) (ended e))
          (do_ends (plain_body unit.body) ∙ paces callee unit is)
      by_end false e = e

  turn_at : (h : Hole) (t : Tree) (n : Node) (store : Store) → Ready w i t n → Steady (fill h t) → First rank i (fill h t) n →
      TurnOrTrap w rank i (fill h t) store n
  turn_at h t n store (simple point) steady first =
      point_turn moving w rank i h t n store (unsettled_open t (ready_left {w = w} {i = i} (simple point)))
      (first_lowest moving w rank i (fill h t) n steady first) (point_over store point)
  turn_at h t n store (calls {l = l} {at = at} {target = target} {a = a} {inputs = inputs} {outputs = outputs} {callee = callee} {unit = unit} called is)
      steady first =
      copy_turn moving w rank i h t begun n callee copy refl move lowest store (follows.inputs_trap called)
      (λ p performs. plain_answer w copy store p refl performs)
      (λ left performs. by_pass left performs
      (inner callee at called unit false body left is (begins w callee unit callable is) (block_steady (plain_body unit.body))))
    where
      s : Call
      s = call l at target a inputs outputs

      body : Tree
      body = do_block (plain_body unit.body)

      begun : Tree
      begun = Run s callee Body false body

      copy : Deed
      copy = deed i at (Copies callee inputs)

      move : Moves Anyway w i t true copy (Here n) begun
      move = moves.runs called is

      lowest : Lowest w rank i (fill h t) (Here n)
      lowest = first_lowest moving w rank i (fill h t) n steady first

      by_pass : (left : Store) → done_by w copy store ≡ Some (record { answer = true; store = left }) → PassOrTrap w rank callee 0 body left →
          TurnOrTrap w rank i (fill h t) store n
      by_pass left performs (comes_to_end pass) = is_made (record {
        done = did copy true ++ pass.done;
        tree = fill h (Run s callee Body false pass.tree);
        left = pass.left;
        turn = lift_turn h t (Run s callee Body false pass.tree) refl (turns.runs called is pass.passes (lasts callee unit pass.done pass.tree is pass.passes));
        steps = low_append (copied moving w rank i h t begun n callee copy refl move lowest store left performs)
            (call_steps moving w rank i h t refl s callee false called (beyond moving w rank i (fill h t) n steady first) pass.steps);
        takes = lift_takes h t (Run s callee Body false pass.tree) refl
            (follows.runs called is performs pass.follows (lasts callee unit pass.done pass.tree is pass.passes));
      })
      by_pass left performs (is_cut trap fails) =
          traps (trap_after (copied moving w rank i h t begun n callee copy refl move lowest store left performs)
          (call_trap moving w rank i h t refl s callee false called (beyond moving w rank i (fill h t) n steady first) trap))
          (lift_breaks h t refl (follows.run_traps called is performs fails))
  turn_at h t n store (copies {s = s} {callee = callee} {stood = stood} {c = c} {unit = unit} called is live still) steady first =
      copy_turn moving w rank i h t begun n callee copy refl move lowest store (follows.copy_traps)
      (λ p performs. plain_answer w copy store p refl performs)
      (λ left performs. by_pass left performs (inner callee s.place called unit stood c left is live still))
    where
      begun : Tree
      begun = Run s callee Body stood c

      copy : Deed
      copy = deed i s.place (Copies callee s.arguments.inputs)

      give : Deed
      give = deed i s.place (Gives callee s.arguments.target)

      move : Moves Anyway w i t true copy (Here n) begun
      move = moves.copies

      lowest : Lowest w rank i (fill h t) (Here n)
      lowest = first_lowest moving w rank i (fill h t) n steady first

      made : (left : Store) → done_by w copy store ≡ Some (record { answer = true; store = left }) →
          (done : List AnsweredDeed) (tree : Tree) (left' : Store) →
          Passes w rank callee 0 c done tree → LowSteps w rank callee c left done tree left' → Follows w rank callee 0 c left tree left' →
          (b : Bool) → is_nil tree ≡ b →
          TurnOrTrap w rank i (fill h t) store n
      made left performs done tree left' passes steps follow false e = is_made (record {
        done = did copy true ++ done;
        tree = fill h (Run s callee Body stood tree);
        left = left';
        turn = lift_turn h t (Run s callee Body stood tree) refl (turns.resumes passes e);
        steps = low_append (copied moving w rank i h t begun n callee copy refl move lowest store left performs)
            (call_steps moving w rank i h t refl s callee stood called (beyond moving w rank i (fill h t) n steady first) steps);
        takes = lift_takes h t (Run s callee Body stood tree) refl (follows.resumes performs follow e);
      })
      made left performs done tree left' passes steps follow true e = is_made (record {
        done = did copy true ++ (done ++ did give true);
        tree = fill h Nil;
        left = given_to w i s.arguments.target (result_at left' callee) left';
        turn = lift_turn h t Nil refl (turns.returns (subst (λ (x : Tree). Passes w rank callee 0 c done x) (is_the_nil tree e) passes));
        steps = low_append (copied moving w rank i h t begun n callee copy refl move lowest store left performs)
            (low_append (call_steps moving w rank i h t refl s callee stood called (beyond moving w rank i (fill h t) n steady first)
            (subst (λ (x : Tree). LowSteps w rank callee c left done x left') (is_the_nil tree e) steps))
            (on (lift_moves h (Run s callee Body stood Nil) Nil refl moves.run_ends)
            (ends_lowest moving w rank i h t refl s callee stood called (beyond moving w rank i (fill h t) n steady first)) refl stay));
        takes = lift_takes h t Nil refl
            (follows.returns performs (subst (λ (x : Tree). Follows w rank callee 0 c left x left') (is_the_nil tree e) follow) refl);
      })

      by_pass : (left : Store) → done_by w copy store ≡ Some (record { answer = true; store = left }) → PassOrTrap w rank callee 0 c left →
          TurnOrTrap w rank i (fill h t) store n
      by_pass left performs (comes_to_end pass) =
          made left performs pass.done pass.tree pass.left pass.passes pass.steps pass.follows (is_nil pass.tree) refl
      by_pass left performs (is_cut trap fails) =
          traps (trap_after (copied moving w rank i h t begun n callee copy refl move lowest store left performs)
          (call_trap moving w rank i h t refl s callee stood called (beyond moving w rank i (fill h t) n steady first) trap))
          (lift_breaks h t refl (follows.resume_traps performs fails))

  -- where the node stands
  pub turn_of : (c : Tree) (n : Node) (store : Store) → Found w i c n → Steady c → First rank i c n → TurnOrTrap w rank i c store n
  turn_of c n store found steady first =
      subst (λ (x : Tree). TurnOrTrap w rank i x store n) (sym found.is)
      (turn_at found.hole found.tree n store found.ready (subst Steady found.is steady)
      (λ y h. first y (subst (λ (x : Tree). Waits x None y) (sym found.is) h)))

-- ---- all turns of an instance

pub within_body : (within : (body : Block) → StaysWithin body) (body : Block) (stood : Bool) (n : Node) → In stood body n → Contains (nodes_in body) n
within_body within body true n there = (within body).depth n there
within_body within body false n there = (within body).surface n there

pub low_live : {w : Setting} {rank : ℕ → Node → ℕ} {i : ℕ} {c : Tree} {store : Store} {done : List AnsweredDeed} {c' : Tree} {store' : Store}
    (kept : StepsKeepFitsGraph) (stood : Bool) (body : Block) → Paces w → AllCallable w → LowSteps w rank i c store done c' store' →
    FitsGraph w i c (whole stood body) → FitsGraph w i c' (whole stood body)
low_live kept stood body paces callable stay live = live
low_live {w} {rank} {i} {c} kept stood body paces callable (on {d = d} {a = a} {n = n} {c' = c'} move low performs rest) live =
    low_live kept stood body paces callable rest (kept w i stood body c d a n c' paces callable live move)

module _ (moving : MovingIsUnsettled) (shrinks : EndsShrink) (lists : TurnsAreWalks) (waiting : TurnsWait) (begins : BodiesFitGraph)
    (kept : StepsKeepFitsGraph) (lead : TurnsLeadOn) (part : WaitsInPart) (within : (body : Block) → StaysWithin body) (w : Setting)
    (rank : ℕ → Node → ℕ) (orders : Orders w rank) (paces : Paces w) (callable : AllCallable w) (i : ℕ)
    (inner : (callee : ℕ) (at : Source) → callee_of w i at ≡ Some callee → HasPasses w rank callee) (unit : UnitDef)
    (is : unit_at w i ≡ Some unit) (stood : Bool) where
  abbrev body : Block
  body = plain_body unit.body

  stands : (c : Tree) (n : Node) → FitsGraph w i c (whole stood body) → Waits c None n → Contains (nodes_in body) n
  stands c n live h = within_body within body stood n (part w i stood body c n live h)

  -- after the turn of a first node all that waits has a greater number
  after_turn : (c : Tree) (done : List AnsweredDeed) (n : Node) (c' : Tree) → FitsGraph w i c (whole stood body) → First rank i c n →
      Turns w rank i c done n c' → WaitsFrom rank i (suc (rank i n)) c'
  after_turn c done n c' live first turn y h =
      ⊎_elim
      (λ old.
      let other : rank i n < rank i y =
      lt_of (rank i n) (rank i y) (first y old.0)
      (λ same. old.1 (sym (orders.apart i unit n y is (stands c n live (waiting w rank i c done n c' None turn)) (stands c y live old.0) same))) in
      omega arith)
      (λ after. let more : rank i n < rank i y = after_rises (rank i) (orders.rising.control i unit is) after in omega arith)
      (lead w rank i stood unit c done n c' y paces live turn h)

  -- what is passed from the greater numbers on
  abbrev Later : Tree → Type 0
  Later c = (n : Node) → Waits c None n → (tree : Tree) (left : Store) → FitsGraph w i tree (whole stood body) → Steady tree →
      WaitsFrom rank i (suc (rank i n)) tree → PassOrTrap w rank i (suc (rank i n)) tree left

  -- the first node has its turn, and then what has greater numbers
  pass_by : (k : ℕ) (c : Tree) (store : Store) → FitsGraph w i c (whole stood body) → Steady c → WaitsFrom rank i k c → Later c →
      PassOrTrap w rank i k c store
  pass_by k c store live steady from later = by_rest (is_settled c) refl
    where
      by_pass : (n : Node) → Waits c None n → First rank i c n → (made : TurnMade w rank i c store n) →
          PassOrTrap w rank i (suc (rank i n)) made.tree made.left → PassOrTrap w rank i k c store
      by_pass n h first made (comes_to_end pass) = comes_to_end (record {
        done = made.done ++ pass.done;
        tree = pass.tree;
        left = pass.left;
        passes = turns.goes (from n h) made.turn pass.passes;
        steps = low_append made.steps pass.steps;
        follows = follows.goes (from n h) first made.takes pass.follows;
      })
      by_pass n h first made (is_cut trap fails) =
          is_cut (trap_after made.steps trap) (follows.goes_on (from n h) first made.takes fails)

      by_turn : (n : Node) → Waits c None n → First rank i c n → TurnOrTrap w rank i c store n → PassOrTrap w rank i k c store
      by_turn n h first (traps trap breaks) = is_cut trap (follows.breaks (from n h) first breaks)
      by_turn n h first (is_made made) = by_pass n h first made
          (later n h made.tree made.left (low_live kept stood body paces callable made.steps live) (turn_steady made.turn steady)
          (after_turn c made.done n made.tree live first made.turn))

      by_least : is_settled c ≡ false → Least (rank i) (Waits c None) → PassOrTrap w rank i k c store
      by_least left (nothing none) =
          let some = something_waits w i (whole stood body) c live (steady_passed c steady) left in absurd (none some.node some.waits)
      by_least left (least n h first) = by_turn n h first
          (turn_of moving shrinks lists waiting begins w rank paces callable i inner c n store
          (find (rank i) (whole stood body) c None n live steady (orders.rising.control i unit is) (unsettled_open c left) h first) steady first)

      by_rest : (b : Bool) → is_settled c ≡ b → PassOrTrap w rank i k c store
      by_rest true e = comes_to_end (record { done = []; tree = c; left = store; passes = turns.rests e; steps = stay; follows = follows.rests e })
      by_rest false e = by_least e (least_waits (rank i) c None)

  abbrev top : ℕ
  top = (bound_of (rank i) (nodes_in body)).top

  -- as many turns as there are numbers left
  pub pass_from : (fuel k : ℕ) (c : Tree) (store : Store) → top ≤ fuel + k → FitsGraph w i c (whole stood body) → Steady c → WaitsFrom rank i k c →
      PassOrTrap w rank i k c store
  pass_from zero k c store enough live steady from = pass_by k c store live steady from (λ n h tree left live' steady' from'. beyond_top n h)
    where
      beyond_top : {A : Type 0} (n : Node) → Waits c None n → A
      beyond_top n h =
          let below : rank i n < top = (bound_of (rank i) (nodes_in body)).below n (stands c n live h) in
          let low : k ≤ rank i n = from n h in absurd (omega arith)
  pass_from (suc fuel) k c store enough live steady from =
      pass_by k c store live steady from
      (λ n h tree left live' steady' from'.
      let low : k ≤ rank i n = from n h in pass_from fuel (suc (rank i n)) tree left (omega arith) live' steady' from')

-- ---- all instances: a callee has a greater number than its caller

pub there : (w : Setting) (i : ℕ) (unit : UnitDef) → unit_at w i ≡ Some unit → i < length w.instances
there w i unit is = by_found (slice_get w.instances i) refl
  where
    by_found : (x : Option Instance) → slice_get w.instances i ≡ x → i < length w.instances
    by_found None e = absurd (cc (ap (option_and_then (unit_of w)) e, is))
    by_found (Some instance) e = slice_get_within w.instances i instance e

module _ (moving : MovingIsUnsettled) (shrinks : EndsShrink) (lists : TurnsAreWalks) (waiting : TurnsWait) (begins : BodiesFitGraph)
    (kept : StepsKeepFitsGraph) (lead : TurnsLeadOn) (part : WaitsInPart) (within : (body : Block) → StaysWithin body) (nest : ProgramsNest) where
  module _ (structs : List StructDef) (units : List UnitDef) (entry : ℕ) (rank : ℕ → Node → ℕ) where
    abbrev W : Setting
    W = setting_of structs units entry

    pass_all : (limit i k : ℕ) (unit : UnitDef) (stood : Bool) (c : Tree) (store : Store) → length W.instances ≤ limit + i → Paces W →
        AllCallable W → Orders W rank → unit_at W i ≡ Some unit → FitsGraph W i c (whole stood (plain_body unit.body)) → Steady c →
        WaitsFrom rank i k c →
        PassOrTrap W rank i k c store
    pass_all zero i k unit stood c store enough paces callable orders is live steady from =
        let within : i < length W.instances = there W i unit is in absurd (omega arith)
    pass_all (suc limit) i k unit stood c store enough paces callable orders is live steady from =
        pass_from moving shrinks lists waiting begins kept lead part within W rank orders paces callable i
        (λ callee at called unit' stood' c' store' is' live' steady'.
        let later : i < callee = (nest structs units entry).later i callee at called in
        pass_all limit callee 0 unit' stood' c' store' (omega arith) paces callable orders is' live' steady' (λ n h. omega arith))
        unit is stood (bound_of (rank i) (nodes_in (plain_body unit.body))).top k c store (omega arith) live steady from

  pub instances_have_passes : InstancesHavePasses
  instances_have_passes structs units entry rank i k unit stood c store paces callable orders is live steady from =
      pass_all structs units entry rank (length (setting_of structs units entry).instances) i k unit stood c store (omega arith) paces callable orders is
      live steady from
