-- Heads of loops that fall away: where they stand, and how many may still fall away there.
use Rattle.std.specs.Prelude.{ℕ, suc, ◌<◌, Bool, false, ⊤, ◌≡◌}
use Rattle.bl_graph_nodes.specs.Nodes.{Node, entry}
use Rattle.bl_graph_nodes.specs.Plain.{Block, Plain, Act, Again, Await, Cobegin, Done, If, Repeat, Run as RunOf, Then, Until, When, While, is_empty}
use Rattle.bl_graph_nodes.specs.Steps.{Here, Inside, StepLabel, run_node}
use Rattle.bl_ctree.specs.Control.{Body}
use Rattle.bl_ctree.specs.Instances.{Setting}
use Rattle.bl_ctree_laws.specs.Pending.{Deed}
use Rattle.bl_ctree_laws.specs.Trees.{Call, Fork, Tree, Trees, Watch, Do, Guard, Par, Run, beside}
use Rattle.bl_ctree_laws_peeled.specs.Lines.{Line, At, line}
use Rattle.bl_ctree_laws_peeled.specs.Steps.{FallsAway, StepsAlong}

abbrev mutual
  -- how many loops that begin with a head begin at once, one in another, where the statement begins
  pub leading : Plain → ℕ
  leading (Act l s) = 0
  leading (Await l at e) = 0
  leading (RunOf l at target a inputs outputs) = 0
  leading (If l at e body other) = 0
  leading (Cobegin l at bodies) = 0
  leading (When l at guard e body) = 0
  leading (Repeat l at body) = suc (leading_in body)
  leading (Until l at body e) = suc (leading_in body)
  leading (While l at e body) = 0
  leading (Again l at body e) = 0

  pub leading_in : Block → ℕ
  leading_in Done = 0
  leading_in (Then s rest) = leading s

-- something stands in the turn of a loop that begins with a head
abbrev pub HasTurn : Plain → Type 0
HasTurn (Repeat l at body) = is_empty body ≡ false
HasTurn (Until l at body e) = is_empty body ≡ false
HasTurn s = ⊤

mutual
  -- on the second line a statement begins at the label, and its counterpart on the first has fewer than k leading loops
  pub data FewAt (k : ℕ) : Line → Line → StepLabel → Type 0 where
    few_begins : {s t : Plain} {rest rest' : Block} {m : StepLabel} → m ≡ Here (entry t) → leading s < k → FewAt k (At (Do s) rest) (At (Do t) rest') m
    few_fork : {p q : Fork} {stood stood' : Bool} {branches branches' : Trees} {rest rest' : Block} {m : StepLabel} → FewEach k branches branches' m →
        FewAt k (At (Par p stood branches) rest) (At (Par q stood' branches') rest') m
    few_guard : {p q : Watch} {stood stood' : Bool} {c t : Tree} {rest rest' : Block} {m : StepLabel} → FewInTree k c t m →
        FewAt k (At (Guard p Body stood c) rest) (At (Guard q Body stood' t) rest') m
    few_run : {p q : Call} {callee callee' : ℕ} {stood stood' : Bool} {c t : Tree} {rest rest' : Block} {m inner : StepLabel} →
        m ≡ Inside (run_node stood' q.label q.place q.arguments) q.unit inner → FewInTree k c t inner →
        FewAt k (At (Run p callee Body stood c) rest) (At (Run q callee' Body stood' t) rest') m

  -- on the lines of two trees
  pub data FewInTree (k : ℕ) : Tree → Tree → StepLabel → Type 0 where
    few_in : {c t : Tree} {m : StepLabel} → FewAt k (line c Done) (line t Done) m → FewInTree k c t m

  -- in one of the branches
  pub data FewEach (k : ℕ) : Trees → Trees → StepLabel → Type 0 where
    few_here : {weak weak' : Bool} {c t : Tree} {rest rest' : Trees} {m : StepLabel} → FewInTree k c t m →
        FewEach k (beside weak c rest) (beside weak' t rest') m
    few_there : {weak weak' : Bool} {c t : Tree} {rest rest' : Trees} {m : StepLabel} → FewEach k rest rest' m →
        FewEach k (beside weak c rest) (beside weak' t rest') m

mutual
  -- the head of a loop on the first line falls away where a statement begins at the label on the second
  pub data FallsAt (H : ℕ → Node → Plain → Type 0) : ℕ → Line → Line → StepLabel → Plain → Type 0 where
    falls_begins : {i : ℕ} {s t : Plain} {rest rest' : Block} {m : StepLabel} → m ≡ Here (entry t) → H i (entry t) s →
        FallsAt H i (At (Do s) rest) (At (Do t) rest') m s
    falls_fork : {i : ℕ} {p q : Fork} {stood stood' : Bool} {branches branches' : Trees} {rest rest' : Block} {m : StepLabel} {s : Plain} →
        FallsEach H i branches branches' m s → FallsAt H i (At (Par p stood branches) rest) (At (Par q stood' branches') rest') m s
    falls_guard : {i : ℕ} {p q : Watch} {stood stood' : Bool} {c t : Tree} {rest rest' : Block} {m : StepLabel} {s : Plain} → FallsIn H i c t m s →
        FallsAt H i (At (Guard p Body stood c) rest) (At (Guard q Body stood' t) rest') m s
    falls_run : {i : ℕ} {p q : Call} {callee : ℕ} {stood stood' : Bool} {c t : Tree} {rest rest' : Block} {m inner : StepLabel} {s : Plain} →
        m ≡ Inside (run_node stood' q.label q.place q.arguments) q.unit inner → FallsIn H callee c t inner s →
        FallsAt H i (At (Run p callee Body stood c) rest) (At (Run q callee Body stood' t) rest') m s

  -- on the lines of two trees
  pub data FallsIn (H : ℕ → Node → Plain → Type 0) : ℕ → Tree → Tree → StepLabel → Plain → Type 0 where
    falls_in : {i : ℕ} {c t : Tree} {m : StepLabel} {s : Plain} → FallsAt H i (line c Done) (line t Done) m s → FallsIn H i c t m s

  -- in one of the branches
  pub data FallsEach (H : ℕ → Node → Plain → Type 0) : ℕ → Trees → Trees → StepLabel → Plain → Type 0 where
    falls_here : {i : ℕ} {weak weak' : Bool} {c t : Tree} {rest rest' : Trees} {m : StepLabel} {s : Plain} → FallsIn H i c t m s →
        FallsEach H i (beside weak c rest) (beside weak' t rest') m s
    falls_there : {i : ℕ} {weak weak' : Bool} {c t : Tree} {rest rest' : Trees} {m : StepLabel} {s : Plain} → FallsEach H i rest rest' m s →
        FallsEach H i (beside weak c rest) (beside weak' t rest') m s

-- a head falls away at a label: there fewer may fall away afterwards, and where few may it stays so
pub record HeadFalls (H : ℕ → Node → Plain → Type 0) (i : ℕ) (c c' t : Tree) (d : Bool) (a : Deed) : Type 0 where
  pub away : FallsAway H i c' t d a
  pub label : StepLabel
  pub loop : Plain
  pub falls : FallsIn H i c t label loop
  pub fewer : HasTurn loop → FewInTree (leading loop) c' t label
  pub keeps : (k : ℕ) (m : StepLabel) → FewInTree k c t m → FewInTree k c' t m

-- the second tree steps too: where few heads may fall away it stays so, but for the label of the step
pub record HeadsStay (T : Bool → Type 0) (H : ℕ → Node → Plain → Type 0) (w' : Setting) (i : ℕ) (c c' t : Tree) (d : Bool) (a : Deed) : Type 0 where
  pub along : StepsAlong T H w' i c' t d a
  pub keeps : (k : ℕ) (m : StepLabel) → FewInTree k c t m → (m ≡ along.label → ⊥) → FewInTree k c' along.after m
