-- Where the head of a loop may fall away the related tree can step, and each label stands at one place.
use Rattle.std.proofs.Common.{◌≡◌, ℕ, suc, Bool, true, [], inr, refl, sym, ◌∙◌, subst, arith}
use Rattle.bl_graph_nodes.specs.Nodes.{Node, entry}
use Rattle.bl_graph_nodes.specs.Plain.{Block, Bodies, Plain, Act, Again, Await, Body as BodyOf, Cobegin, Done, If, Last, Repeat, Run as RunOf, Then, Until}
use Rattle.bl_graph_nodes.specs.Plain.{When, While, is_empty, plain_body}
use Rattle.bl_graph_nodes.specs.Steps.{Here, Inside, StepLabel, head_of, run_node}
use Rattle.bl_graph.specs.DataEdges.{BesideEach}
use Rattle.bl_graph.specs.Laws.{BranchesPart}
use Rattle.bl_ctree.specs.Control.{Check, Body}
use Rattle.bl_ctree.specs.Instances.{Setting}
use Rattle.bl_ctree_laws.specs.Pending.{Deed}
use Rattle.bl_ctree_laws.specs.Steps.{Anyway, Moves, OneMoves, acts, takes, pauses, runs, repeats, repeats_until, leaves, enters, forks, guards, in_seq, in_par}
use Rattle.bl_ctree_laws.specs.Steps.{in_guard, in_run, first, later}
use Rattle.bl_ctree_laws.specs.Trees.{Tree, Trees, Nil, Wait, Test, Idle, Do, Seq, Par, Guard, Run, before, beside, is_nil, no_tree}
use Rattle.bl_ctree_laws_traces.specs.Progress.FitsGraph.{AllFitGraph, FitsGraph}
use Rattle.bl_ctree_laws_traces.specs.Progress.Places.{Callable, Place, ahead_of, guarded, in_branch, whole}
use Rattle.bl_ctree_laws_traces.proofs.OnProgress.Acting.{one_region, region}
use Rattle.bl_ctree_laws_traces.proofs.OnBounded.Stepping.{Parted}
use Rattle.bl_ctree_laws_peeled.proofs.Heads.{FallsAt, FallsEach, FallsIn, FewAt, FewEach, FewInTree, HasTurn, falls_begins, falls_fork, falls_guard}
use Rattle.bl_ctree_laws_peeled.proofs.Heads.{falls_here, falls_in, falls_run, falls_there, few_begins, few_fork, few_guard, few_here, few_in, few_run}
use Rattle.bl_ctree_laws_peeled.proofs.Heads.{few_there, leading}
use Rattle.bl_ctree_laws_peeled.specs.Lines.{Line, line}
use Rattle.bl_ctree_laws_traces.proofs.OnBounded.Stepping.{crossing, inside_same}

-- ---- heads that fall away

module _ {H : ℕ → Node → Plain → Type 0} where
  mutual
    -- where the head of a loop falls away its counterpart has no more leading loops
    falls_few : {i : ℕ} {L L' : Line} {m : StepLabel} {s : Plain} → FallsAt H i L L' m s → FewAt (suc (leading s)) L L' m
    falls_few (falls_begins is may) = few_begins is (omega arith)
    falls_few (falls_fork falls) = few_fork (each_falls_few falls)
    falls_few (falls_guard falls) = few_guard (in_falls_few falls)
    falls_few (falls_run is falls) = few_run is (in_falls_few falls)

    in_falls_few : {i : ℕ} {c t : Tree} {m : StepLabel} {s : Plain} → FallsIn H i c t m s → FewInTree (suc (leading s)) c t m
    in_falls_few (falls_in falls) = few_in (falls_few falls)

    each_falls_few : {i : ℕ} {branches branches' : Trees} {m : StepLabel} {s : Plain} → FallsEach H i branches branches' m s →
        FewEach (suc (leading s)) branches branches' m
    each_falls_few (falls_here falls) = few_here (in_falls_few falls)
    each_falls_few (falls_there falls) = few_there (each_falls_few falls)

  module _ (turns : (i : ℕ) (n : Node) (s : Plain) → H i n s → HasTurn s) where
    mutual
      falls_turn_at : {i : ℕ} {L L' : Line} {m : StepLabel} {s : Plain} → FallsAt H i L L' m s → HasTurn s
      falls_turn_at (falls_begins is may) = turns _ _ _ may
      falls_turn_at (falls_fork falls) = each_falls_turn falls
      falls_turn_at (falls_guard falls) = falls_turn falls
      falls_turn_at (falls_run is falls) = falls_turn falls

      pub falls_turn : {i : ℕ} {c t : Tree} {m : StepLabel} {s : Plain} → FallsIn H i c t m s → HasTurn s
      falls_turn (falls_in falls) = falls_turn_at falls

      each_falls_turn : {i : ℕ} {branches branches' : Trees} {m : StepLabel} {s : Plain} → FallsEach H i branches branches' m s → HasTurn s
      each_falls_turn (falls_here falls) = falls_turn falls
      each_falls_turn (falls_there falls) = each_falls_turn falls

few_same : {k : ℕ} {L L' : Line} {one other : StepLabel} → one ≡ other → FewAt k L L' one → FewAt k L L' other
few_same {k} {L} {L'} is few = subst (FewAt k L L') is few

-- the tree can step at the label, other branches' writes ignored
pub record CanMove (w : Setting) (i : ℕ) (t : Tree) (m : StepLabel) : Type 0 where
  pub answer : Bool
  pub deed : Deed
  pub after : Tree
  pub moves : Moves Anyway w i t answer deed m after

-- one of the branches can
record OneCanMove (w : Setting) (i : ℕ) (branches : Trees) (m : StepLabel) : Type 0 where
  answer : Bool
  deed : Deed
  after : Trees
  moves : OneMoves Anyway w i branches answer deed m after

begin_moves : (w : Setting) (i : ℕ) (s : Plain) → Callable w i s → CanMove w i (Do s) (Here (entry s))
begin_moves w i (Act l s) calls = record { answer = _; deed = _; after = _; moves = acts }
begin_moves w i (Await l at e) calls = record { answer = _; deed = _; after = _; moves = pauses }
begin_moves w i (RunOf l at target a inputs outputs) calls = record { answer = _; deed = _; after = _; moves = runs calls.called calls.is }
begin_moves w i (If l at e body other) calls = record { answer = _; deed = _; after = _; moves = takes }
begin_moves w i (Cobegin l at bodies) calls = record { answer = _; deed = _; after = _; moves = forks }
begin_moves w i (When l at guard e body) calls = record { answer = _; deed = _; after = _; moves = guards }
begin_moves w i (Repeat l at body) calls = record { answer = _; deed = _; after = _; moves = repeats }
begin_moves w i (Until l at body e) calls = record { answer = _; deed = _; after = _; moves = repeats_until }
begin_moves w i (While l at e body) calls = record { answer = _; deed = _; after = _; moves = enters }
begin_moves w i (Again l at body e) calls = record { answer = _; deed = _; after = _; moves = leaves }

module _ (part : BranchesPart) (w : Setting) where
  mutual
    -- where a statement begins its tree can step; a block follows only what is left
    few_moves : {j : ℕ} {L : Line} {m : StepLabel} (t : Tree) (k : Block) → (is_nil t ≡ true → is_empty k ≡ true) → FewAt j L (line t k) m →
        (i : ℕ) (g : Place) → FitsGraph w i t g → CanMove w i t m
    few_moves Nil Done left few i g live = elim few [ ]
    few_moves Nil (Then s k) left few i g live = absurd (cc (left refl))
    few_moves (Wait s) k left few i g live = elim few [ ]
    few_moves (Test s) k left few i g live = elim few [ ]
    few_moves (Idle body) k left few i g live = elim live [ ]
    few_moves (Do s) k left (few_begins is less) i g live = subst (CanMove w i (Do s)) (sym is) (begin_moves w i s live.0.calls)
    few_moves (Seq c Done) k left few i g live = elim live [ ]
    few_moves (Seq c (Then s rest)) k left few i g live =
        let one = few_moves c (before (Then s rest) k) (λ nil. absurd (cc (nil, live.1.unended))) few i (ahead_of (entry s) g) live.0 in
        record { answer = one.answer; deed = one.deed; after = _; moves = in_seq one.moves }
    few_moves (Par s stood branches) k left (few_fork few) i g live =
        let one = each_few_moves branches few i s.bodies stood g live.0 in
        record { answer = one.answer; deed = one.deed; after = _; moves = in_par one.moves }
    few_moves (Guard s Check stood c) k left few i g live = elim few [ ]
    few_moves (Guard s Body stood c) k left (few_guard (few_in few)) i g live =
        let one = few_moves c Done (λ nil. refl) few i (guarded s g) live.0 in
        record { answer = one.answer; deed = one.deed; after = _; moves = in_guard one.moves }
    few_moves (Run s callee Check stood c) k left few i g live = elim few [ ]
    few_moves (Run s callee Body stood c) k left (few_run {inner = inner} is (few_in few)) i g live =
        let one = few_moves c Done (λ nil. refl) few callee (whole stood (plain_body live.0.body)) live.1 in
        let moves : CanMove w i (Run s callee Body stood c) (Inside (run_node stood s.label s.place s.arguments) s.unit inner) =
        record { answer = one.answer; deed = one.deed; after = _; moves = in_run one.moves } in
        subst (CanMove w i (Run s callee Body stood c)) (sym is) moves

    each_few_moves : {j : ℕ} {source : Trees} {m : StepLabel} (branches : Trees) → FewEach j source branches m → (i : ℕ) (bodies : Bodies) (stood : Bool)
        (g : Place) → AllFitGraph w i branches bodies stood g → OneCanMove w i branches m
    each_few_moves no_tree few i bodies stood g lives = elim few [ ]
    each_few_moves (beside weak c rest) few i Last stood g lives = elim lives [ ]
    each_few_moves (beside weak c rest) (few_here (few_in few)) i (BodyOf weak' body bodies) stood g lives =
        let one = few_moves c Done (λ nil. refl) few i (in_branch stood body g) lives.0 in
        record { answer = one.answer; deed = one.deed; after = _; moves = first one.moves tt }
    each_few_moves (beside weak c rest) (few_there few) i (BodyOf weak' body bodies) stood g lives =
        let one = each_few_moves rest few i bodies stood g lives.2 in
        record { answer = one.answer; deed = one.deed; after = _; moves = later one.moves tt }

  -- one label doesn't stand in two branches
  branches_apart : {j k : ℕ} {one : Line} {others : Trees} {m : StepLabel} (c : Tree) (rest : Trees) → FewAt j one (line c Done) m → FewEach k others rest m →
      (i : ℕ) (weak : Bool) (body : Block) (bodies : Bodies) (stood : Bool) (g : Place) → FitsGraph w i c (in_branch stood body g) →
      AllFitGraph w i rest bodies stood g → Parted g.links → ((n m : Node) → BesideEach (BodyOf weak body bodies) n m → g.links n m) → ⊥
  branches_apart {m = m} c rest few more i weak body bodies stood g live lives parted links =
      parted (head_of m) (head_of m)
      (links (head_of m) (head_of m)
      (crossing stood weak body bodies (head_of m) (head_of m)
      (region (few_moves c Done (λ nil. refl) few i (in_branch stood body g) live).moves (in_branch stood body g) live)
      (one_region (each_few_moves rest more i bodies stood g lives).moves bodies stood g lives))) refl

  module _ {H : ℕ → Node → Plain → Type 0} where
    mutual
      -- where the head of a loop may fall away at a label, no fewer may fall away at that label
      falls_once : {i : ℕ} {L : Line} {m : StepLabel} {s : Plain} (t : Tree) (k : Block) → (is_nil t ≡ true → is_empty k ≡ true) →
          FallsAt H i L (line t k) m s → FewAt (leading s) L (line t k) m → (g : Place) → FitsGraph w i t g → Parted g.links → ⊥
      falls_once Nil Done left falls few g live parted = elim few [ ]
      falls_once Nil (Then s k) left falls few g live parted = absurd (cc (left refl))
      falls_once (Wait s) k left falls few g live parted = elim few [ ]
      falls_once (Test s) k left falls few g live parted = elim few [ ]
      falls_once (Idle body) k left falls few g live parted = elim live [ ]
      falls_once (Do s) k left (falls_begins is may) (few_begins at less) g live parted = omega (arith, less)
      falls_once (Seq c Done) k left falls few g live parted = elim live [ ]
      falls_once (Seq c (Then s rest)) k left falls few g live parted =
          falls_once c (before (Then s rest) k) (λ nil. absurd (cc (nil, live.1.unended))) falls few (ahead_of (entry s) g) live.0 parted
      falls_once (Par s stood branches) k left (falls_fork falls) (few_fork few) g live parted =
          each_falls_once branches falls few s.bodies stood g live.0 parted live.1.fits.beside
      falls_once (Guard s Check stood c) k left falls few g live parted = elim few [ ]
      falls_once (Guard s Body stood c) k left (falls_guard (falls_in falls)) (few_guard (few_in few)) g live parted =
          falls_once c Done (λ nil. refl) falls few (guarded s g) live.0 parted
      falls_once (Run s callee Check stood c) k left falls few g live parted = elim few [ ]
      falls_once (Run s callee Body stood c) k left (falls_run {inner = inner} is (falls_in falls)) (few_run {inner = inner'} at (few_in few)) g live parted =
          falls_once c Done (λ nil. refl) falls (few_same (inside_same _ _ _ _ (sym at ∙ is)) few)
          (whole stood (plain_body live.0.body)) live.1 (λ n m h. part live.0.body [] n m h)

      each_falls_once : {i : ℕ} {source : Trees} {m : StepLabel} {s : Plain} (branches : Trees) → FallsEach H i source branches m s →
          FewEach (leading s) source branches m → (bodies : Bodies) (stood : Bool) (g : Place) → AllFitGraph w i branches bodies stood g →
          Parted g.links → ((n m : Node) → BesideEach bodies n m → g.links n m) → ⊥
      each_falls_once no_tree falls few bodies stood g lives parted links = elim few [ ]
      each_falls_once (beside weak c rest) falls few Last stood g lives parted links = elim lives [ ]
      each_falls_once (beside weak c rest) (falls_here (falls_in falls)) (few_here (few_in few)) (BodyOf weak' body bodies) stood g lives parted links =
          falls_once c Done (λ nil. refl) falls few (in_branch stood body g) lives.0 parted
      each_falls_once {i = i} (beside weak c rest) (falls_here (falls_in falls)) (few_there few) (BodyOf weak' body bodies) stood g lives parted links =
          branches_apart c rest (falls_few falls) few i weak' body bodies stood g lives.0 lives.2 parted links
      each_falls_once {i = i} (beside weak c rest) (falls_there falls) (few_here (few_in few)) (BodyOf weak' body bodies) stood g lives parted links =
          branches_apart c rest few (each_falls_few falls) i weak' body bodies stood g lives.0 lives.2 parted links
      each_falls_once (beside weak c rest) (falls_there falls) (few_there few) (BodyOf weak' body bodies) stood g lives parted links =
          each_falls_once rest falls few bodies stood g lives.2 parted (λ n m h. links n m (inr (inr (inr h))))

    pub falls_alone : {i : ℕ} {c t : Tree} {m : StepLabel} {s : Plain} → FallsIn H i c t m s → FewInTree (leading s) c t m → (g : Place) →
        FitsGraph w i t g → Parted g.links → ⊥
    falls_alone {t = t} (falls_in falls) (few_in few) g live parted = falls_once t Done (λ nil. refl) falls few g live parted

    pub falls_moves : {i : ℕ} {c t : Tree} {m : StepLabel} {s : Plain} → FallsIn H i c t m s → (g : Place) → FitsGraph w i t g → CanMove w i t m
    falls_moves {i = i} {t = t} (falls_in falls) g live = few_moves t Done (λ nil. refl) (falls_few falls) i g live
