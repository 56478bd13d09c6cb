-- What passes by rules leave alone.
use Rattle.std.proofs.Common.{◌≡◌, ℕ, Bool, true, false, List, [], ◌∷◌, Option, Some, None, refl, sym, ap, ◌∙◌, subst}
use Rattle.std.specs.Prelude.{nat_eq, option_and_then, option_map, slice_get, unwrap_or, if◌then◌else◌, ⊤}
use Rattle.bl_tree.proofs.Basics.{numbers_differ, same_some}
use Rattle.bl_tree.specs.declared.place.Place.{Place}
use Rattle.bl_tree.specs.declared.static_path.Static.{Static}
use Rattle.bl_tree.specs.declared.tree.Path.{Path}
use Rattle.bl_tree.specs.declared.tree.Stmt.{Stmt, out-Stmt}
use Rattle.bl_tree.specs.declared.tree.StmtKind.TheOpen.{StmtKind-F}
use Rattle.bl_tree.specs.declared.tree.StructDef.{StructDef}
use Rattle.bl_tree.specs.declared.tree.Unit.{Unit as UnitDef}
use Rattle.bl_tree.specs.declared.value.Value.{Value}
use Rattle.bl_tree.specs.Effects.{writes}
use Rattle.bl_tree.specs.Static.{static_of}
use Rattle.bl_eval.specs.Values.{value_at}
use Rattle.bl_graph_nodes.specs.Nodes.{ActAt, CheckAt, DepthEndAt, DepthJoinAt, EnterAt, ForkAt, HeadAt, Node, PauseAt, ResumeAt, StartAt, SurfaceEndAt}
use Rattle.bl_graph_nodes.specs.Nodes.{SurfaceJoinAt, TestAt}
use Rattle.bl_ctree.specs.Actions.{Acts, Asks, Copies, Effect, Gives, Silent, acted_kind, done, given_to}
use Rattle.bl_ctree.specs.Actions.{is_true_value, outcome_there, result_at, value_there, values_there, with_result}
use Rattle.bl_ctree.specs.Instances.{Setting, callee_of, setting_of, unit_at}
use Rattle.bl_ctree.specs.Positions.{stmt_kind}
use Rattle.bl_ctree.specs.Store.{Frame, Location, Store, home, put, put_path, put_written, remember, value_among, with_frame, with_inputs}
use Rattle.bl_ctree_laws.specs.Pending.{deed}
use Rattle.bl_ctree_laws_confluence.specs.Deeds.Nesting.{Inside, ProgramsNest, deeper, itself}
use Rattle.bl_ctree_laws_confluence.specs.Deeds.Origins.{HomesLeadOut}
use Rattle.bl_ctree_laws_confluence.specs.Stores.{FramesKeepOthers, HomesLeadOn, PutsKeepOthers, before_of, now_of}
use Rattle.bl_ctree_laws_confluence.proofs.OnDeeds.Plans.{Kind}
use Rattle.bl_machine.specs.Uses.{Slots}
use Rattle.bl_machine_laws.specs.Passes.Follows.{DeedYields}
use Rattle.bl_machine_pass.specs.Registers.{Registers, with_at}
use Rattle.bl_machine_pass_laws_execution.specs.Executes.{ClearsInside, Executes, IsPoint, Performs, deed_at}
use Rattle.bl_machine_pass_laws_execution.specs.Executes.{acts, does, ends, enters, resumes, returns, skips}
use Rattle.bl_machine_pass_laws_execution.specs.Frames.{ChangeOnly, Frames}
use Rattle.bl_machine_pass_laws_execution.specs.Fresh.Laws.{DeedsAreSeen}
use Rattle.bl_machine_pass_laws_execution.specs.Kept.Kept.{NoOutput, StoreKept}
use Rattle.bl_machine_pass_laws_execution.specs.Kept.Laws.{PassesKeep, PassesKeepIn}
use Rattle.bl_machine_pass_laws_execution.proofs.OnKept.Homes.{apart_from, through}
use Rattle.bl_machine_pass_laws_execution.proofs.OnFresh.Doing.{found, performed_by}

-- ---- what holds through each deed of some instances

-- inputs that the effect copies go to one of these instances
abbrev CopiesIn : (ℕ → Type 0) → Effect → Type 0
CopiesIn In (Copies callee inputs) = In callee
CopiesIn In _ = ⊤

-- what holds of a store holds after each deed of one of these instances
abbrev Through : Setting → (ℕ → Type 0) → (Store → Type 0) → Type 0
Through w In P =
    (i : ℕ) (at : Place) (effect : Effect) (store : Store) (d : Bool) (left : Store) → In i → CopiesIn In effect →
    DeedYields w (deed i at effect) store d left → P store → P left

-- it holds after a value is put at a home of one of them, and after its frame is changed
record Closed (w : Setting) (In : ℕ → Type 0) (P : Store → Type 0) : Type 0 where
  puts : (i : ℕ) (path : Static) (v : Value) (s : Store) → In i → P s → P (put (home w (record { instance = i; path = path })) v s)
  frames : (i : ℕ) (change : Frame → Frame) (s : Store) → In i → P s → P (with_frame i change s)

module _ (w : Setting) (In : ℕ → Type 0) (P : Store → Type 0) (closed : Closed w In P) (i : ℕ) (here : In i) where
  path_kept : (values : List Value) (path : Static) (s : Store) → P s → P (put_path w i values path s)
  path_kept values path s h = by_value (option_and_then (value_at path.fields) (slice_get values path.root))
    where
      by_value : (o : Option Value) → P (unwrap_or (option_map (λ value. put (home w (record { instance = i; path = path })) value s) o) s)
      by_value None = h
      by_value (Some v) = closed.puts i path v s here h

  written : (values : List Value) (paths : List Static) (s : Store) → P s → P (put_written w i values paths s)
  written values [] s h = h
  written values (path ∷ rest) s h = written values rest (put_path w i values path s) (path_kept values path s h)

  wrote : (s : Stmt) (store left : Store) → P store →
      option_map (λ values. put_written w i values (writes s) store) (outcome_there w store i s) ≡ Some left → P left
  wrote s store left h e =
      let values = found (λ values. put_written w i values (writes s) store) (outcome_there w store i s) left e in
      subst P values.2 (written values.0 (writes s) store h)

  by_kind : (s : Stmt) (kind : Kind) (store left : Store) → P store → acted_kind w i s kind store ≡ Some left → P left
  by_kind s (StmtKind-F.Return None) store left h e = subst P (same_some store left e) h
  by_kind s (StmtKind-F.Return (Some x)) store left h e =
      let v = found (λ value. with_frame i (with_result value) store) (value_there w store i x) left e in
      subst P v.2 (closed.frames i (with_result v.0) store here h)
  by_kind s (StmtKind-F.Declare k initial) store left h e =
      let v = found (λ values. with_frame i (remember k) (put_written w i values (writes s) store)) (outcome_there w store i s) left e in
      subst P v.2 (closed.frames i (remember k) (put_written w i v.0 (writes s) store) here (written v.0 (writes s) store h))
  by_kind s (StmtKind-F.Assign path x) store left h e = wrote s store left h e
  by_kind s (StmtKind-F.Call f inputs outputs) store left h e = wrote s store left h e
  by_kind s (StmtKind-F.Await x) store left h e = wrote s store left h e
  by_kind s (StmtKind-F.Run target a inputs outputs) store left h e = wrote s store left h e
  by_kind s (StmtKind-F.If arms other) store left h e = wrote s store left h e
  by_kind s (StmtKind-F.Cobegin branches) store left h e = wrote s store left h e
  by_kind s (StmtKind-F.When guard x body) store left h e = wrote s store left h e
  by_kind s (StmtKind-F.Repeat body) store left h e = wrote s store left h e
  by_kind s (StmtKind-F.Until body x) store left h e = wrote s store left h e
  by_kind s (StmtKind-F.While x body) store left h e = wrote s store left h e

  given : (target : Option Path) (result : Option Value) (store : Store) → P store → P (given_to w i target result store)
  given (Some path) (Some v) store h = closed.puts i (static_of path) v store here h
  given (Some path) None store h = h
  given None (Some v) store h = h
  given None None store h = h

through_deeds : (w : Setting) (In : ℕ → Type 0) (P : Store → Type 0) → Closed w In P → Through w In P
through_deeds w In P closed i at Silent store d left here copies e h =
    subst P (ap (λ p. p.store) (same_some (done store) (performed_by d left) e)) h
through_deeds w In P closed i at (Acts s) store d left here copies e h =
    let p = found done (acted_kind w i s (stmt_kind s) store) (performed_by d left) e in
    subst P (ap (λ p. p.store) p.2) (by_kind w In P closed i here s (stmt_kind s) store p.0 h p.1)
through_deeds w In P closed i at (Asks x) store d left here copies e h =
    let p = found (λ value. performed_by (is_true_value value) store) (value_there w store i x) (performed_by d left) e in
    subst P (ap (λ p. p.store) p.2) h
through_deeds w In P closed i at (Copies callee inputs) store d left here copies e h =
    let p = found (λ values. done (with_frame callee (with_inputs values) store)) (values_there w store i inputs) (performed_by d left) e in
    subst P (ap (λ p. p.store) p.2) (closed.frames callee (with_inputs p.0) store copies h)
through_deeds w In P closed i at (Gives callee target) store d left here copies e h =
    subst P
    (ap (λ p. p.store) (same_some (done (given_to w i target (result_at store callee) store)) (performed_by d left) e))
    (given w In P closed i here target (result_at store callee) store h)

-- ---- passes

module _ (w : Setting) (rank : ℕ → Node → ℕ) (slots : ℕ → Slots) (clear : ℕ → Frames → Frames) (In : ℕ → Type 0)
    (calls : (i c : ℕ) (at : Place) → In i → callee_of w i at ≡ Some c → In c) where
  module _ (P : Store → Type 0) (deeds : Through w In P) where
    point_through : (i : ℕ) (n : Node) (store : Store) (d : Bool) (left : Store) → IsPoint n → In i → DeedYields w (deed_at i n) store d left →
        P store → P left
    point_through i (ActAt l s) store d left is here e h = deeds i (out-Stmt s).place (Acts s) store d left here tt e h
    point_through i (TestAt l at x) store d left is here e h = deeds i at (Asks x) store d left here tt e h
    point_through i (PauseAt l at) store d left is here e h = deeds i at Silent store d left here tt e h
    point_through i (EnterAt l at arguments) store d left is here e h = absurd is
    point_through i (ResumeAt l at arguments) store d left is here e h = absurd is
    point_through i (HeadAt l at) store d left is here e h = deeds i at Silent store d left here tt e h
    point_through i (StartAt l at) store d left is here e h = deeds i at Silent store d left here tt e h
    point_through i (CheckAt l at x) store d left is here e h = deeds i at (Asks x) store d left here tt e h
    point_through i (SurfaceEndAt l at) store d left is here e h = deeds i at Silent store d left here tt e h
    point_through i (DepthEndAt l at) store d left is here e h = deeds i at Silent store d left here tt e h
    point_through i (ForkAt l at) store d left is here e h = deeds i at Silent store d left here tt e h
    point_through i (SurfaceJoinAt l at) store d left is here e h = deeds i at Silent store d left here tt e h
    point_through i (DepthJoinAt l at) store d left is here e h = deeds i at Silent store d left here tt e h

    mutual
      pass_through : {i k : ℕ} {frames : Frames} {store : Store} {copies : List Value} {r : Registers} {frames' : Frames} {left : Store}
          {r' : Registers} → Executes w rank slots clear i k frames store copies r frames' left r' → In i → P store → P left
      pass_through (ends is past) here h = h
      pass_through (skips is undue more) here h = pass_through more here h
      pass_through (acts is rule has number due alone sees performs more) here h = pass_through more here (node_through performs here h)

      node_through : {i : ℕ} {n : Node} {frames : Frames} {store : Store} {answer : Bool} {frames' : Frames} {left : Store} →
          Performs w rank slots clear i n frames store answer frames' left → In i → P store → P left
      node_through (does {i = i} {n = n} {store = store} {answer = answer} {left = left} is e) here h =
          point_through i n store answer left is here e h
      node_through (enters {i = i} {at = at} {arguments = arguments} {store = store} {given = given} {callee = callee} called is copied pass on)
          here h =
          let inner = calls i callee at here called in
          pass_through pass inner (deeds i at (Copies callee arguments.inputs) store true given here inner copied h)
      node_through (resumes {i = i} {at = at} {arguments = arguments} {store = store} {given = given} {callee = callee} called began copied pass on)
          here h =
          let inner = calls i callee at here called in
          pass_through pass inner (deeds i at (Copies callee arguments.inputs) store true given here inner copied h)
      node_through (returns {i = i} {at = at} {arguments = arguments} {store = store} {given = given} {ended = ended} {left = left}
          {callee = callee} called began copied pass over gives) here h =
          let inner = calls i callee at here called in
          deeds i at (Gives callee arguments.target) ended true left here tt gives
          (pass_through pass inner (deeds i at (Copies callee arguments.inputs) store true given here inner copied h))

  -- ---- counters

  module _ (cleared : (c : ℕ) (frames : Frames) → In c → ChangeOnly In frames (clear c frames)) where
    elsewhere : (callee : ℕ) (counters : ℕ → ℕ) (frames : Frames) (k : ℕ) → In callee → (In k → ⊥) → (j : ℕ) →
        with_at callee counters frames k j ≡ frames k j
    elsewhere callee counters frames k inner outside j =
        ap (λ b. (if b then counters else frames k) j) (numbers_differ k callee (λ same. outside (subst In (sym same) inner)))

    mutual
      pass_counts : {i k : ℕ} {frames : Frames} {store : Store} {copies : List Value} {r : Registers} {frames' : Frames} {left : Store}
          {r' : Registers} → Executes w rank slots clear i k frames store copies r frames' left r' → In i → ChangeOnly In frames frames'
      pass_counts (ends is past) here = λ k outside j. refl
      pass_counts (skips is undue more) here = pass_counts more here
      pass_counts (acts is rule has number due alone sees performs more) here =
          let one = node_counts performs here in
          let rest = pass_counts more here in
          λ k outside j. rest k outside j ∙ one k outside j

      node_counts : {i : ℕ} {n : Node} {frames : Frames} {store : Store} {answer : Bool} {frames' : Frames} {left : Store} →
          Performs w rank slots clear i n frames store answer frames' left → In i → ChangeOnly In frames frames'
      node_counts (does is e) here = λ k outside j. refl
      node_counts (enters {i = i} {at = at} {frames = frames} {frames' = frames'} {r' = r'} {callee = callee} called is copied pass on) here =
          let inner = calls i callee at here called in
          let more = pass_counts pass inner in
          λ k outside j. elsewhere callee r'.counters frames' k inner outside j ∙ more k outside j ∙ cleared callee frames inner k outside j
      node_counts (resumes {i = i} {at = at} {frames' = frames'} {r' = r'} {callee = callee} called began copied pass on) here =
          let inner = calls i callee at here called in
          let more = pass_counts pass inner in
          λ k outside j. elsewhere callee r'.counters frames' k inner outside j ∙ more k outside j
      node_counts (returns {i = i} {at = at} {frames' = frames'} {r' = r'} {callee = callee} called began copied pass over gives) here =
          let inner = calls i callee at here called in
          let more = pass_counts pass inner in
          λ k outside j. elsewhere callee r'.counters frames' k inner outside j ∙ more k outside j

-- ---- laws

module _ (out : HomesLeadOut) (nest : ProgramsNest) (lead_on : HomesLeadOn) (puts : PutsKeepOthers) (frames : FramesKeepOthers)
    (seen : DeedsAreSeen) (structs : List StructDef) (units : List UnitDef) (entry : ℕ) where
  abbrev W : Setting
  W = setting_of structs units entry

  not_inside : (j i x : ℕ) → Inside W j i → (Inside W j x → ⊥) → nat_eq i x ≡ false
  not_inside j i x inner outside = numbers_differ i x (λ same. outside (subst (Inside W j) same inner))

  below : (j i c : ℕ) (at : Place) → Inside W j i → callee_of W i at ≡ Some c → Inside W j c
  below j i c at inner called = deeper i at inner called

  before_through : (j x : ℕ) (start : Store) → (Inside W j x → ⊥) →
      Through W (Inside W j) (λ s. option_map before_of (slice_get s x) ≡ option_map before_of (slice_get start x))
  before_through j x start outside i at effect store d left here copies e h =
      seen.before W i x at effect store d left e (λ same. outside (subst (Inside W j) (sym same) here)) ∙ h

  results_closed : (j x : ℕ) (start : Store) → (Inside W j x → ⊥) → Closed W (Inside W j) (λ s. result_at s x ≡ result_at start x)
  results_closed j x start outside = record {
    puts = λ i path v s here h. puts.results (home W (record { instance = i; path = path })) v s x ∙ h;
    frames = λ i change s here h. frames.results i x change s (not_inside j i x here outside) ∙ h;
  }

  now_closed : (j : ℕ) (unit : UnitDef) (at : Location) (start : Store) → unit_at W j ≡ Some unit → (Inside W j at.instance → ⊥) →
      NoOutput W j unit at → Closed W (Inside W j) (λ s. value_among now_of s at ≡ value_among now_of start at)
  now_closed j unit at start is outside none = record {
    puts = λ i path v s here h. puts.now (home W (record { instance = i; path = path })) at v s
        (apart_from structs units entry out (nest structs units entry) lead_on j unit i path at is here outside none) ∙ h;
    frames = λ i change s here h. frames.values now_of i change at s (not_inside j i at.instance here outside) ∙ h;
  }

  clears : (clear : ℕ → Frames → Frames) → ClearsInside W clear → (j c : ℕ) (frames : Frames) → Inside W j c →
      ChangeOnly (Inside W j) frames (clear c frames)
  clears clear inside j c frames inner k outside n = inside c frames k (λ within. outside (through W j c k inner within)) n

  module _ (rank : ℕ → Node → ℕ) (slots : ℕ → Slots) (clear : ℕ → Frames → Frames) where
    -- what holds through each deed inside the instance tells what is kept
    kept : (j : ℕ) (unit : UnitDef) (store left : Store) → unit_at W j ≡ Some unit →
        ((P : Store → Type 0) → Through W (Inside W j) P → P store → P left) → StoreKept W j unit store left
    kept j unit store left is goes = record {
      before = λ x outside.
          goes (λ s. option_map before_of (slice_get s x) ≡ option_map before_of (slice_get store x)) (before_through j x store outside) refl;
      results = λ x outside.
          goes (λ s. result_at s x ≡ result_at store x)
          (through_deeds W (Inside W j) (λ s. result_at s x ≡ result_at store x) (results_closed j x store outside)) refl;
      now = λ at outside none.
          goes (λ s. value_among now_of s at ≡ value_among now_of store at)
          (through_deeds W (Inside W j) (λ s. value_among now_of s at ≡ value_among now_of store at)
          (now_closed j unit at store is outside none)) refl;
    }

    keep_in : PassesKeepIn W rank slots clear
    keep_in = record {
      stores = λ j k unit frames store copies r frames' left r' is pass. kept j unit store left is
          (λ P deeds h. pass_through W rank slots clear (Inside W j) (below j) P deeds pass itself h);
      nodes = λ j n unit frames store answer frames' left is performs. kept j unit store left is
          (λ P deeds h. node_through W rank slots clear (Inside W j) (below j) P deeds performs itself h);
      counters = λ j k frames store copies r frames' left r' inside pass.
          pass_counts W rank slots clear (Inside W j) (below j) (clears clear inside j) pass itself;
      node_counters = λ j n frames store answer frames' left inside performs.
          node_counts W rank slots clear (Inside W j) (below j) (clears clear inside j) performs itself;
    }

pub passes_keep : HomesLeadOut → ProgramsNest → HomesLeadOn → PutsKeepOthers → FramesKeepOthers → DeedsAreSeen → PassesKeep
passes_keep out nest lead_on puts frames seen structs units entry rank slots clear =
    keep_in out nest lead_on puts frames seen structs units entry rank slots clear
