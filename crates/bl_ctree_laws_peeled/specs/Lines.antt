-- Lines of trees: the head of a tree, with all that follows it as one block; and two trees whose lines are related.
use Rattle.std.specs.Prelude.{ℕ, Bool, true, false, ◌&&◌, ◌≡◌}
use Rattle.bl_graph_nodes.specs.Nodes.{Node}
use Rattle.bl_graph_nodes.specs.Plain.{Block, Plain, Done, Then}
use Rattle.bl_ctree.specs.Control.{Phase}
use Rattle.bl_ctree_laws.specs.Trees.{Call, Fork, Pause, Tree, Trees, Watch, Nil, Wait, Test, Idle, Do, Seq, Par, Guard, Run, before, beside, no_tree}
use Rattle.bl_ctree_laws_peeled.specs.Unrolls.{Unrolls}

-- what is left to do: nothing, or a tree that is no sequence, and then a block
pub data Line : Type 0 where
  Over : Line
  At : Tree → Block → Line

-- the line of a tree that a block follows
abbrev pub line : Tree → Block → Line
line Nil Done = Over
line Nil (Then s rest) = At (Do s) rest
line (Seq c rest) k = line c (before rest k)
line c k = At c k

-- whether the tree has begun and not ended
abbrev pub is_under_way : Tree → Bool
is_under_way Nil = false
is_under_way (Idle body) = false
is_under_way _ = true

-- whether all that something follows in the tree's sequences is under way
abbrev pub is_chain : Tree → Bool
is_chain (Seq c rest) = is_under_way c && is_chain c
is_chain _ = true

-- H i says which heads may fall away in the body of instance i.
mutual
  -- two lines of an instance: both are over, or their heads are related and the blocks behind them unrolled
  pub data Lined (H : ℕ → Node → Plain → Type 0) : ℕ → Line → Line → Type 0 where
    both_over : {i : ℕ} → Lined H i Over Over
    -- a first turn may be unrolled where a statement is to begin
    both_begin : {i : ℕ} {s t : Plain} {rest rest' : Block} → Unrolls (H i) (Then s rest) (Then t rest') → Lined H i (At (Do s) rest) (At (Do t) rest')
    both_stand : {i : ℕ} {c t : Tree} {rest rest' : Block} → Standing H i c t → Unrolls (H i) rest rest' → Lined H i (At c rest) (At t rest')

  -- two trees that wait or have begun, with one text, and related trees in them; whether they stood in the tick's first tree is free
  pub data Standing (H : ℕ → Node → Plain → Type 0) : ℕ → Tree → Tree → Type 0 where
    both_wait : {i : ℕ} {p q : Pause} → p.test ≡ q.test → Standing H i (Wait p) (Wait q)
    both_test : {i : ℕ} {p q : Pause} → p.test ≡ q.test → Standing H i (Test p) (Test q)
    both_idle : {i : ℕ} {body body' : Block} → Unrolls (H i) body body' → Standing H i (Idle body) (Idle body')
    both_fork : {i : ℕ} {p q : Fork} {stood stood' : Bool} {branches branches' : Trees} → RelatedEach H i branches branches' →
        Standing H i (Par p stood branches) (Par q stood' branches')
    both_guard : {i : ℕ} {p q : Watch} {phase : Phase} {stood stood' : Bool} {c t : Tree} → p.guard ≡ q.guard → p.test ≡ q.test →
        Unrolls (H i) p.body q.body → Related H i c t → Standing H i (Guard p phase stood c) (Guard q phase stood' t)
    -- a `run`, with the heads of the instance that it began
    both_run : {i : ℕ} {p q : Call} {callee : ℕ} {phase : Phase} {stood stood' : Bool} {c t : Tree} → p.arguments ≡ q.arguments →
        Related H callee c t → Standing H i (Run p callee phase stood c) (Run q callee phase stood' t)

  -- two trees with related lines
  pub data Related (H : ℕ → Node → Plain → Type 0) : ℕ → Tree → Tree → Type 0 where
    related : {i : ℕ} {c t : Tree} → is_chain c ≡ true → is_chain t ≡ true → Lined H i (line c Done) (line t Done) → Related H i c t

  -- branches with related trees, each weak where the other is
  pub data RelatedEach (H : ℕ → Node → Plain → Type 0) : ℕ → Trees → Trees → Type 0 where
    no_branches : {i : ℕ} → RelatedEach H i no_tree no_tree
    one_branch : {i : ℕ} {weak : Bool} {c t : Tree} {rest rest' : Trees} → Related H i c t → RelatedEach H i rest rest' →
        RelatedEach H i (beside weak c rest) (beside weak t rest')
