-- The passes of a tick: a list, by the bodies of units and the `run`s of the tree with which the tick begins. Each step is of one of them.
use Rattle.std.proofs.Common.{◌≡◌, ℕ, zero, suc, ◌<◌, Bool, true, false, List, [], ◌∷◌, ◌++◌, map, Some, inl, inr, refl, sym, ap, ◌∙◌, subst, arith}
use Rattle.std.specs.Prelude.{option_map, slice_get, unwrap_or}
use Rattle.bl_tree.specs.declared.tree.Unit.{Unit as UnitDef}
use Rattle.bl_tree.specs.Reduce.{joined}
use Rattle.bl_tree.proofs.FirstLemmas.{In as Among, contains_in}
use Rattle.bl_graph_nodes.specs.Nodes.{Node, entry, nodes_in}
use Rattle.bl_graph_nodes.specs.Plain.{Block, Bodies, Body as BodyOf, Done, Last, Then, plain_body}
use Rattle.bl_graph_nodes.specs.Steps.{Gives, Here, Inside, StepLabel, head_of, leaf_of, run_node}
use Rattle.bl_graph.specs.Edges.{In}
use Rattle.bl_graph.specs.Laws.{StaysWithin}
use Rattle.bl_ctree.specs.Instances.{Setting}
use Rattle.bl_ctree_laws.specs.Pending.{Deed}
use Rattle.bl_ctree_laws.specs.Steps.{Anyway, Moves, OneMoves, acts, takes, passes, pauses, runs, repeats, repeats_until, leaves, turns, enters, skips, forks}
use Rattle.bl_ctree_laws.specs.Steps.{guards, goes_on, waits, lets, aborts, resets, guard_ends, copies, run_ends, joins, in_seq, in_par, in_guard, in_run}
use Rattle.bl_ctree_laws.specs.Steps.{first, later}
use Rattle.bl_ctree_laws.specs.Trees.{Call, Tree, Trees}
use Rattle.bl_ctree_laws_traces.specs.Progress.FitsGraph.{AllFitGraph, FitsGraph}
use Rattle.bl_ctree_laws_traces.specs.Progress.Places.{Place, ahead_of, guarded, in_branch, whole}
use Rattle.bl_ctree_laws_traces.specs.Bounded.TickPasses.{Below, Pass, Through, pass_of, step_in, unit_of_pass}
use Rattle.bl_ctree_laws_traces.proofs.OnProgress.Acting.{region}
use Rattle.bl_ctree_laws_traces.proofs.OnBounded.Calls.{calls_in}
use Rattle.bl_ctree_laws_traces.proofs.OnBounded.Lists.{among_joined}
use Rattle.bl_ctree_laws_traces.proofs.OnBounded.Standing.{AllStood, InnerTree, Stood, inner_tree, runs_in_tree}
use Rattle.bl_ctree_laws_traces.proofs.OnBounded.Tied.{Tied, TiedEach}
use Rattle.bl_ctree_laws_confluence.proofs.OnApart.Members.{in_left, in_right, in_map}

-- the node of a `run` that begins, or that has stood
abbrev pub node_at : Bool → Call → Node
node_at stood s = run_node stood s.label s.place s.arguments

-- ---- passes

-- the passes below the `run` statements of a body, as their units begin
abbrev pub begun_passes : (ℕ → List Pass) → Call → List Pass
begun_passes alone s = map (Below (node_at false s) s.unit) (alone s.unit)

-- the passes below a `run` that stood
abbrev pub stood_passes : (InnerTree → List Pass) → InnerTree → List Pass
stood_passes again r = map (Below (node_at true r.call) r.call.unit) (again r)

-- the passes of a body, and those below its `run` statements and below the `run`s that stood
abbrev pub body_passes : (ℕ → List Pass) → (InnerTree → List Pass) → ℕ → Block → List InnerTree → List Pass
body_passes alone again k body old =
    Through k ∷ (joined (map (begun_passes alone) (calls_in body)) ++ joined (map (stood_passes again) old))

-- the passes of the unit with a number, of which these `run`s stood, through as many calls at most
abbrev pub tick_passes : List UnitDef → ℕ → ℕ → List InnerTree → List Pass
tick_passes units zero k old = []
tick_passes units (suc longest) k old =
    unwrap_or (option_map (λ (unit : UnitDef). body_passes (λ u. tick_passes units longest u [])
    (λ (r : InnerTree). tick_passes units longest r.call.unit (runs_in_tree r.tree)) k (plain_body unit.body) old) (slice_get units k)) []

-- ---- the steps of a pass

-- the ends of a body's `run` statements
abbrev pub ends_in : Block → List StepLabel
ends_in body = joined (map (λ (s : Call). Gives (node_at false s) ∷ Gives (node_at true s) ∷ []) (calls_in body))

-- the steps of a pass through a body
abbrev pub own_steps : Block → List StepLabel
own_steps body = map Here (nodes_in body) ++ ends_in body

-- a step without the calls that lead to it
abbrev pub own_of : StepLabel → StepLabel
own_of (Here n) = Here n
own_of (Gives n) = Gives n
own_of (Inside n unit step) = own_of step

pub step_again : (k : ℕ) (n : StepLabel) → step_in (pass_of k n) (own_of n) ≡ n
step_again k (Here n) = refl
step_again k (Gives n) = refl
step_again k (Inside n unit step) = ap (Inside n unit) (step_again unit step)

-- the step is one of the body, or of a unit that is called
abbrev pub StepOf : List UnitDef → Block → StepLabel → Type 0
StepOf units body (Here n) = Among n (nodes_in body)
StepOf units body (Gives n) = Among n (nodes_in body) × Among (Gives n) (ends_in body)
StepOf units body (Inside n called step) = (unit : UnitDef) × (slice_get units called ≡ Some unit) × StepOf units (plain_body unit.body) step

-- the unit that the pass of a step passes through
pub record PassFound (units : List UnitDef) (k : ℕ) (n : StepLabel) : Type 0 where
  pub unit : UnitDef
  pub found : slice_get units (unit_of_pass (pass_of k n)) ≡ Some unit
  pub node : Among (leaf_of n) (nodes_in (plain_body unit.body))
  pub own : Among (own_of n) (own_steps (plain_body unit.body))

pub pass_found : (units : List UnitDef) (k : ℕ) (unit : UnitDef) (n : StepLabel) → slice_get units k ≡ Some unit →
    StepOf units (plain_body unit.body) n → PassFound units k n
pass_found units k unit (Here n) is at = record {
  unit = unit;
  found = is;
  node = at;
  own = in_left (Here n) (map Here (nodes_in (plain_body unit.body))) (ends_in (plain_body unit.body))
      (in_map Here n (nodes_in (plain_body unit.body)) at);
}
pass_found units k unit (Gives n) is at = record {
  unit = unit;
  found = is;
  node = at.0;
  own = in_right (Gives n) (map Here (nodes_in (plain_body unit.body))) (ends_in (plain_body unit.body)) at.1;
}
pass_found units k unit (Inside n called step) is at =
    let inner = pass_found units called at.0 step at.1 at.2 in
    record { unit = inner.unit; found = inner.found; node = inner.node; own = inner.own }

-- a unit runs earlier ones
abbrev pub CallsEarlier : List UnitDef → Type 0
CallsEarlier units = (k : ℕ) (unit : UnitDef) (s : Call) → slice_get units k ≡ Some unit → Among s (calls_in (plain_body unit.body)) → s.unit < k

pub some_same : (one other : UnitDef) → Some one ≡ Some other → one ≡ other
some_same one other e = cc

-- the nodes that act in this tick are nodes of the body
pub node_listed : ((body : Block) → StaysWithin body) → (stood : Bool) (body : Block) (n : Node) → In stood body n → Among n (nodes_in body)
node_listed within false body n inside = contains_in n (nodes_in body) ((within body).surface n inside)
node_listed within true body n inside = contains_in n (nodes_in body) ((within body).depth n inside)

gives_listed : (body : Block) (stood : Bool) (s : Call) → Among s (calls_in body) → Among (Gives (node_at stood s)) (ends_in body)
gives_listed body false s at =
    among_joined (λ (s : Call). Gives (node_at false s) ∷ Gives (node_at true s) ∷ []) s (Gives (node_at false s)) (calls_in body) at (inl refl)
gives_listed body true s at =
    among_joined (λ (s : Call). Gives (node_at false s) ∷ Gives (node_at true s) ∷ []) s (Gives (node_at true s)) (calls_in body) at (inr (inl refl))

module _ (within : (body : Block) → StaysWithin body) (w : Setting) where
  -- the step of a move is one of its body, or of a unit that is called
  mutual
    pub step_of : {i : ℕ} {c : Tree} {d : Bool} {a : Deed} {n : StepLabel} {c' : Tree} → Moves Anyway w i c d a n c' → (g : Place) (body : Block) →
        FitsGraph w i c g → Tied w body c → Among (head_of n) (nodes_in body) → StepOf w.units body n
    step_of acts g body live tied at = at
    step_of takes g body live tied at = at
    step_of passes g body live tied at = at
    step_of pauses g body live tied at = at
    step_of (runs begins found) g body live tied at = at
    step_of repeats g body live tied at = at
    step_of repeats_until g body live tied at = at
    step_of leaves g body live tied at = at
    step_of turns g body live tied at = at
    step_of enters g body live tied at = at
    step_of skips g body live tied at = at
    step_of forks g body live tied at = at
    step_of guards g body live tied at = at
    step_of goes_on g body live tied at = at
    step_of waits g body live tied at = at
    step_of lets g body live tied at = at
    step_of (aborts is) g body live tied at = at
    step_of (resets is) g body live tied at = at
    step_of guard_ends g body live tied at = at
    step_of copies g body live tied at = at
    step_of (run_ends {s = s} {stood = stood}) g body live tied at = (at, gives_listed body stood s tied.3)
    step_of (joins still done) g body live tied at = at
    step_of (in_seq {rest = Done} move) g body live tied at = elim live [ ]
    step_of (in_seq {rest = Then s rest} move) g body live tied at = step_of move (ahead_of (entry s) g) body live.0 tied at
    step_of (in_par {s = s} {stood = stood} move) g body live tied at = one_step_of move s.bodies stood g body live.0 tied at
    step_of (in_guard {s = s} move) g body live tied at = step_of move (guarded s g) body live.0 tied at
    step_of (in_run {stood = stood} {c = c} {n = n} move) g body live tied at =
        let unit = live.0 in
        let same : tied.0 ≡ unit = some_same tied.0 unit (sym tied.1 ∙ live.2.is) in
        let tied_in : Tied w (plain_body unit.body) c = subst (λ (u : UnitDef). Tied w (plain_body u.body) c) same tied.4 in (
          unit,
          tied.2 ∙ ap Some same,
          step_of move (whole stood (plain_body unit.body)) (plain_body unit.body) live.1 tied_in
              (node_listed within stood (plain_body unit.body) (head_of n) (region move (whole stood (plain_body unit.body)) live.1)),
        )

    one_step_of : {i : ℕ} {branches : Trees} {d : Bool} {a : Deed} {n : StepLabel} {branches' : Trees} → OneMoves Anyway w i branches d a n branches' →
        (bodies : Bodies) (stood : Bool) (g : Place) (body : Block) → AllFitGraph w i branches bodies stood g →
        TiedEach w body branches → Among (head_of n) (nodes_in body) → StepOf w.units body n
    one_step_of (first move free) Last stood g body lives tied at = elim lives [ ]
    one_step_of (first move free) (BodyOf weak block rest) stood g body lives tied at = step_of move (in_branch stood block g) body lives.0 tied.0 at
    one_step_of (later move free) Last stood g body lives tied at = elim lives [ ]
    one_step_of (later move free) (BodyOf weak block rest) stood g body lives tied at = one_step_of move rest stood g body lives.2 tied.1 at

module _ (w : Setting) (earlier : CallsEarlier w.units) where
  -- the passes of a body, through as many calls
  abbrev passes_of : ℕ → ℕ → Block → List InnerTree → List Pass
  passes_of longest k body old =
      body_passes (λ u. tick_passes w.units longest u []) (λ (r : InnerTree). tick_passes w.units longest r.call.unit (runs_in_tree r.tree)) k body old

  -- those of a unit that is found
  unit_passed : (longest k : ℕ) (old : List InnerTree) (unit : UnitDef) (pass : Pass) → slice_get w.units k ≡ Some unit → k < longest →
      ((l : ℕ) → longest ≡ suc l → Among pass (passes_of l k (plain_body unit.body) old)) → Among pass (tick_passes w.units longest k old)
  unit_passed zero k old unit pass is less inside = absurd (omega arith)
  unit_passed (suc longest) k old unit pass is less inside =
      subst (λ found. Among pass (unwrap_or (option_map (λ (unit : UnitDef). passes_of longest k (plain_body unit.body) old) found) [])) (sym is)
      (inside longest refl)

  begun_listed : (longest k : ℕ) (body : Block) (old : List InnerTree) (s : Call) (pass : Pass) → Among s (calls_in body) →
      Among pass (tick_passes w.units longest s.unit []) → Among (Below (node_at false s) s.unit pass) (passes_of longest k body old)
  begun_listed longest k body old s pass at inside =
      let alone : ℕ → List Pass = λ u. tick_passes w.units longest u [] in
      inr (in_left (Below (node_at false s) s.unit pass) (joined (map (begun_passes alone) (calls_in body)))
      (joined (map (stood_passes (λ (r : InnerTree). tick_passes w.units longest r.call.unit (runs_in_tree r.tree))) old))
      (among_joined (begun_passes alone) s (Below (node_at false s) s.unit pass) (calls_in body) at
      (in_map (Below (node_at false s) s.unit) pass (alone s.unit) inside)))

  stood_listed : (longest k : ℕ) (body : Block) (old : List InnerTree) (s : Call) (t : Tree) (pass : Pass) → Among (inner_tree s t) old →
      Among pass (tick_passes w.units longest s.unit (runs_in_tree t)) → Among (Below (node_at true s) s.unit pass) (passes_of longest k body old)
  stood_listed longest k body old s t pass at inside =
      let again : InnerTree → List Pass = λ (r : InnerTree). tick_passes w.units longest r.call.unit (runs_in_tree r.tree) in
      inr (in_right (Below (node_at true s) s.unit pass) (joined (map (begun_passes (λ u. tick_passes w.units longest u [])) (calls_in body)))
      (joined (map (stood_passes again) old))
      (among_joined (stood_passes again) (inner_tree s t) (Below (node_at true s) s.unit pass) old at
      (in_map (Below (node_at true s) s.unit) pass (again (inner_tree s t)) inside)))

  -- the pass of a move is in the list of its body
  abbrev Listed : StepLabel → ℕ → Block → List InnerTree → ℕ → Type 0
  Listed n k body old longest =
      ((s : Call) → Among s (calls_in body) → s.unit < longest) → Among (pass_of k n) (passes_of longest k body old)

  mutual
    pub listed : {i : ℕ} {c : Tree} {d : Bool} {a : Deed} {n : StepLabel} {c' : Tree} → Moves Anyway w i c d a n c' → (k : ℕ) (body : Block)
        (old : List InnerTree) (longest : ℕ) → Tied w body c → Stood old c → Listed n k body old longest
    listed acts k body old longest tied stands fuel = inl refl
    listed takes k body old longest tied stands fuel = inl refl
    listed passes k body old longest tied stands fuel = inl refl
    listed pauses k body old longest tied stands fuel = inl refl
    listed (runs begins found) k body old longest tied stands fuel = inl refl
    listed repeats k body old longest tied stands fuel = inl refl
    listed repeats_until k body old longest tied stands fuel = inl refl
    listed leaves k body old longest tied stands fuel = inl refl
    listed turns k body old longest tied stands fuel = inl refl
    listed enters k body old longest tied stands fuel = inl refl
    listed skips k body old longest tied stands fuel = inl refl
    listed forks k body old longest tied stands fuel = inl refl
    listed guards k body old longest tied stands fuel = inl refl
    listed goes_on k body old longest tied stands fuel = inl refl
    listed waits k body old longest tied stands fuel = inl refl
    listed lets k body old longest tied stands fuel = inl refl
    listed (aborts is) k body old longest tied stands fuel = inl refl
    listed (resets is) k body old longest tied stands fuel = inl refl
    listed guard_ends k body old longest tied stands fuel = inl refl
    listed copies k body old longest tied stands fuel = inl refl
    listed run_ends k body old longest tied stands fuel = inl refl
    listed (joins still done) k body old longest tied stands fuel = inl refl
    listed (in_seq move) k body old longest tied stands fuel = listed move k body old longest tied stands fuel
    listed (in_par move) k body old longest tied stands fuel = one_listed move k body old longest tied stands fuel
    listed (in_guard move) k body old longest tied stands fuel = listed move k body old longest tied stands fuel
    listed (in_run {s = s} {stood = false} {n = n} move) k body old longest tied stands fuel =
        let unit = tied.0 in
        begun_listed longest k body old s (pass_of s.unit n) tied.3
        (unit_passed longest s.unit [] unit (pass_of s.unit n) tied.2 (fuel s tied.3) (λ l longer.
        listed move s.unit (plain_body unit.body) [] l tied.4 stands
        (λ t inside. let less = earlier s.unit unit t tied.2 inside in let more = fuel s tied.3 in omega arith)))
    listed (in_run {s = s} {stood = true} {n = n} move) k body old longest tied stands fuel =
        let unit = tied.0 in
        let t = stands.0 in
        stood_listed longest k body old s t (pass_of s.unit n) stands.1
        (unit_passed longest s.unit (runs_in_tree t) unit (pass_of s.unit n) tied.2 (fuel s tied.3) (λ l longer.
        listed move s.unit (plain_body unit.body) (runs_in_tree t) l tied.4 stands.2
        (λ u inside. let less = earlier s.unit unit u tied.2 inside in let more = fuel s tied.3 in omega arith)))

    pub one_listed : {i : ℕ} {branches : Trees} {d : Bool} {a : Deed} {n : StepLabel} {branches' : Trees} → OneMoves Anyway w i branches d a n branches' →
        (k : ℕ) (body : Block) (old : List InnerTree) (longest : ℕ) → TiedEach w body branches → AllStood old branches → Listed n k body old longest
    one_listed (first move free) k body old longest tied stands fuel = listed move k body old longest tied.0 stands.0 fuel
    one_listed (later move free) k body old longest tied stands fuel = one_listed move k body old longest tied.1 stands.1 fuel
