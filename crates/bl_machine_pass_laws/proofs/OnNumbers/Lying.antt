-- The counters at which a tree rests stay those of its body.
use Rattle.std.proofs.Common.{◌≡◌, ℕ, suc, Bool, true, false, List}
use Rattle.std.proofs.lemmas.Bool.{or_left, or_right}
use Rattle.bl_tree.proofs.Basics.{either_case, number_itself}
use Rattle.bl_graph_nodes.specs.Nodes.{Node}
use Rattle.bl_graph_nodes.specs.Plain.{Again, Block, Bodies, Body as BodyOf, Done, Label, Last, Plain, Repeat, Then, While}
use Rattle.bl_ctree.specs.Instances.{Setting}
use Rattle.bl_ctree_laws.specs.Pending.{Deed}
use Rattle.bl_ctree_laws.specs.Steps.{turn}
use Rattle.bl_ctree_laws.specs.Trees.{Tree, Trees, Nil, Wait, Test, Idle, Do, Seq, Par, Guard, Run, all_woken, trees_begun, beside, do_block, no_tree, seq}
use Rattle.bl_ctree_laws.specs.Trees.{woken}
use Rattle.bl_machine.specs.Uses.{Slots, is_of, uses, uses_in, uses_in_branch}
use Rattle.bl_machine_laws.specs.Numbers.Turns as turns
use Rattle.bl_machine_laws.specs.Numbers.Turns.{AnsweredDeed, InstancePoint, OneTurns, Turns}
use Rattle.bl_machine_pass.specs.SlotLayout.{BlockRestsAt, BranchesRestAt, StatementRestsAt}
use Rattle.bl_machine_pass_laws.specs.Turns.Sits.{LieEach, Lies, UseEach, UsesOnly}

-- ---- where a tree rests

module _ (slots : Slots) where
  pub block_lies : (low : ℕ) (body : Block) → BlockRestsAt slots low body → Lies slots low (do_block body)
  block_lies low Done laid = tt
  block_lies low (Then s Done) laid = laid.0
  block_lies low (Then s (Then t rest)) laid = laid

  turn_laid : (low : ℕ) (body : Block) (x : Plain) → BlockRestsAt slots low body → StatementRestsAt slots low x → BlockRestsAt slots low (turn body x)
  turn_laid low Done x laid more = (more, tt)
  turn_laid low (Then s rest) x laid more = (laid.0, turn_laid low rest x laid.1 more)

  begun_lie : (l : Label) (k : ℕ) (bodies : Bodies) → BranchesRestAt slots l k bodies → LieEach slots l k (trees_begun bodies)
  begun_lie l k Last laid = tt
  begun_lie l k (BodyOf weak body rest) laid = (block_lies (slots.ending l k).counter body laid.0, begun_lie l (suc k) rest laid.2)

  seq_lies : (low : ℕ) (c : Tree) (s : Plain) (rest : Block) → Lies slots low c → BlockRestsAt slots low (Then s rest) →
      Lies slots low (seq c (Then s rest))
  seq_lies low Nil s rest lies laid = block_lies low (Then s rest) laid
  seq_lies low (Wait p) s rest lies laid = (lies, laid)
  seq_lies low (Test p) s rest lies laid = (lies, laid)
  seq_lies low (Idle body) s rest lies laid = (lies, laid)
  seq_lies low (Do p) s rest lies laid = (lies, laid)
  seq_lies low (Seq c after) s rest lies laid = (lies, laid)
  seq_lies low (Par p stood branches) s rest lies laid = (lies, laid)
  seq_lies low (Guard p phase stood c) s rest lies laid = (lies, laid)
  seq_lies low (Run p callee phase stood c) s rest lies laid = (lies, laid)

  lies_point : {w : Setting} {i : ℕ} {c : Tree} {d : Bool} {a : Deed} {n : Node} {c' : Tree} (low : ℕ) → InstancePoint w i c d a n c' →
      Lies slots low c → Lies slots low c'
  lies_point low turns.acts lies = tt
  lies_point low (turns.takes {body = body}) lies = block_lies low body lies.0
  lies_point low (turns.passes {other = other}) lies = block_lies low other lies.1
  lies_point low turns.pauses lies = lies
  lies_point low (turns.repeats {l = l} {at = at} {body = body}) lies =
      block_lies low (turn body (Repeat l at body)) (turn_laid low body (Repeat l at body) lies lies)
  lies_point low (turns.repeats_until {l = l} {at = at} {body = body} {e = e}) lies =
      block_lies low (turn body (Again l at body e)) (turn_laid low body (Again l at body e) lies lies)
  lies_point low turns.leaves lies = tt
  lies_point low turns.turns lies = lies
  lies_point low (turns.enters {l = l} {at = at} {e = e} {body = body}) lies =
      block_lies low (turn body (While l at e body)) (turn_laid low body (While l at e body) lies lies)
  lies_point low turns.skips lies = tt
  lies_point low (turns.forks {l = l} {bodies = bodies}) lies = (lies, begun_lie l 0 bodies lies.1)
  lies_point low (turns.guards {body = body}) lies = (lies, block_lies low body lies)
  lies_point low turns.goes_on lies = tt
  lies_point low turns.waits lies = lies
  lies_point low turns.lets lies = lies
  lies_point low (turns.aborts is) lies = tt
  lies_point low (turns.resets {s = s} is) lies = (lies.0, block_lies low s.body lies.0)
  lies_point low turns.guard_ends lies = tt
  lies_point low (turns.joins settled done) lies = tt

  mutual
    pub lies_turn : {w : Setting} {rank : ℕ → Node → ℕ} {i : ℕ} {c : Tree} {done : List AnsweredDeed} {n : Node} {c' : Tree} (low : ℕ) →
        Turns w rank i c done n c' → Lies slots low c → Lies slots low c'
    lies_turn low (turns.point p) lies = lies_point low p lies
    lies_turn low (turns.runs called is passes unended) lies = lies
    lies_turn low (turns.resumes passes unended) lies = lies
    lies_turn low (turns.returns passes) lies = tt
    lies_turn low (turns.in_seq {s = s} {rest = rest} {c' = c'} t) lies = seq_lies low c' s rest (lies_turn low t lies.0) lies.1
    lies_turn low (turns.in_par {s = s} t) lies = (lies.0, one_lies s.label 0 t lies.1)
    lies_turn low (turns.in_guard t) lies = (lies.0, lies_turn low t lies.1)

    one_lies : {w : Setting} {rank : ℕ → Node → ℕ} {i : ℕ} {branches : Trees} {done : List AnsweredDeed} {n : Node} {branches' : Trees}
        (l : Label) (k : ℕ) → OneTurns w rank i branches done n branches' → LieEach slots l k branches → LieEach slots l k branches'
    one_lies l k (turns.first t) lies = (lies_turn (slots.ending l k).counter t lies.0, lies.1)
    one_lies l k (turns.later t) lies = (lies.0, one_lies l (suc k) t lies.1)

  mutual
    pub woken_lies : (low : ℕ) (c : Tree) → Lies slots low c → Lies slots low (woken c)
    woken_lies low Nil lies = tt
    woken_lies low (Wait s) lies = lies
    woken_lies low (Test s) lies = lies
    woken_lies low (Idle body) lies = block_lies low body lies
    woken_lies low (Do s) lies = lies
    woken_lies low (Seq c rest) lies = (woken_lies low c lies.0, lies.1)
    woken_lies low (Par s stood branches) lies = (lies.0, all_woken_lie s.label 0 branches lies.1)
    woken_lies low (Guard s phase stood c) lies = (lies.0, woken_lies low c lies.1)
    woken_lies low (Run s callee phase stood c) lies = lies

    all_woken_lie : (l : Label) (k : ℕ) (branches : Trees) → LieEach slots l k branches → LieEach slots l k (all_woken branches)
    all_woken_lie l k no_tree lies = tt
    all_woken_lie l k (beside weak c branches) lies = (woken_lies (slots.ending l k).counter c lies.0, all_woken_lie l (suc k) branches lies.1)

-- ---- which counters it uses

-- all counters that the block uses are among these
abbrev Within : Slots → Block → (ℕ → Bool) → Type 0
Within slots body used = (j : ℕ) → uses_in slots body j ≡ true → used j ≡ true

module _ (slots : Slots) where
  pub block_uses : (used : ℕ → Bool) (body : Block) → Within slots body used → UsesOnly slots used (do_block body)
  block_uses used Done within = tt
  block_uses used (Then s Done) within = λ j h. within j (or_left (uses slots s j) false h)
  block_uses used (Then s (Then t rest)) within = (
    λ j h. within j (or_left (uses slots s j) (uses_in slots (Then t rest) j) h),
    λ j h. within j (or_right (uses slots s j) (uses_in slots (Then t rest) j) h),
  )

  turn_uses : (used : ℕ → Bool) (body : Block) (x : Plain) → Within slots body used → ((j : ℕ) → uses slots x j ≡ true → used j ≡ true) →
      Within slots (turn body x) used
  turn_uses used Done x within more j h = either_case (uses slots x j) false h (λ e. more j e) (λ e. absurd cc)
  turn_uses used (Then s rest) x within more j h =
      either_case (uses slots s j) (uses_in slots (turn rest x) j) h (λ e. within j (or_left (uses slots s j) (uses_in slots rest j) e))
      (λ e. turn_uses used rest x (λ k f. within k (or_right (uses slots s k) (uses_in slots rest k) f)) more j e)

  begun_use : (l : Label) (k : ℕ) (bodies : Bodies) → UseEach slots l k bodies (trees_begun bodies)
  begun_use l k Last = tt
  begun_use l k (BodyOf weak body rest) = (
    block_uses (uses_in_branch slots l k body) body (λ j h. or_right (is_of (slots.ending l k) j) (uses_in slots body j) h),
    begun_use l (suc k) rest,
  )

  seq_uses : (used : ℕ → Bool) (c : Tree) (s : Plain) (rest : Block) → UsesOnly slots used c → Within slots (Then s rest) used →
      UsesOnly slots used (seq c (Then s rest))
  seq_uses used Nil s rest inner within = block_uses used (Then s rest) within
  seq_uses used (Wait p) s rest inner within = (inner, within)
  seq_uses used (Test p) s rest inner within = (inner, within)
  seq_uses used (Idle body) s rest inner within = (inner, within)
  seq_uses used (Do p) s rest inner within = (inner, within)
  seq_uses used (Seq c after) s rest inner within = (inner, within)
  seq_uses used (Par p stood branches) s rest inner within = (inner, within)
  seq_uses used (Guard p phase stood c) s rest inner within = (inner, within)
  seq_uses used (Run p callee phase stood c) s rest inner within = (inner, within)

  uses_point : {w : Setting} {i : ℕ} {c : Tree} {d : Bool} {a : Deed} {n : Node} {c' : Tree} (used : ℕ → Bool) → InstancePoint w i c d a n c' →
      UsesOnly slots used c → UsesOnly slots used c'
  uses_point used turns.acts within = tt
  uses_point used (turns.takes {body = body} {other = other}) within =
      block_uses used body (λ j h. within j (or_left (uses_in slots body j) (uses_in slots other j) h))
  uses_point used (turns.passes {body = body} {other = other}) within =
      block_uses used other (λ j h. within j (or_right (uses_in slots body j) (uses_in slots other j) h))
  uses_point used (turns.pauses {l = l}) within = within (slots.rest l).counter (number_itself (slots.rest l).counter)
  uses_point used (turns.repeats {l = l} {at = at} {body = body}) within =
      block_uses used (turn body (Repeat l at body)) (turn_uses used body (Repeat l at body) within within)
  uses_point used (turns.repeats_until {l = l} {at = at} {body = body} {e = e}) within =
      block_uses used (turn body (Again l at body e)) (turn_uses used body (Again l at body e) within within)
  uses_point used turns.leaves within = tt
  uses_point used turns.turns within = within
  uses_point used (turns.enters {l = l} {at = at} {e = e} {body = body}) within =
      block_uses used (turn body (While l at e body)) (turn_uses used body (While l at e body) within within)
  uses_point used turns.skips within = tt
  uses_point used (turns.forks {l = l} {bodies = bodies}) within = (within, begun_use l 0 bodies)
  uses_point used (turns.guards {body = body}) within = (within, block_uses (uses_in slots body) body (λ j h. h))
  uses_point used turns.goes_on within = tt
  uses_point used turns.waits within = within
  uses_point used turns.lets within = within
  uses_point used (turns.aborts is) within = tt
  uses_point used (turns.resets {s = s} is) within = (within.0, block_uses (uses_in slots s.body) s.body (λ j h. h))
  uses_point used turns.guard_ends within = tt
  uses_point used (turns.joins settled done) within = tt

  mutual
    pub uses_turn : {w : Setting} {rank : ℕ → Node → ℕ} {i : ℕ} {c : Tree} {done : List AnsweredDeed} {n : Node} {c' : Tree} (used : ℕ → Bool) →
        Turns w rank i c done n c' → UsesOnly slots used c → UsesOnly slots used c'
    uses_turn used (turns.point p) within = uses_point used p within
    uses_turn used (turns.runs {l = l} called is passes unended) within = within (slots.rest l).counter (number_itself (slots.rest l).counter)
    uses_turn used (turns.resumes passes unended) within = within
    uses_turn used (turns.returns passes) within = tt
    uses_turn used (turns.in_seq {s = s} {rest = rest} {c' = c'} t) within = seq_uses used c' s rest (uses_turn used t within.0) within.1
    uses_turn used (turns.in_par {s = s} t) within = (within.0, one_uses s.label 0 s.bodies t within.1)
    uses_turn used (turns.in_guard {s = s} t) within = (within.0, uses_turn (uses_in slots s.body) t within.1)

    one_uses : {w : Setting} {rank : ℕ → Node → ℕ} {i : ℕ} {branches : Trees} {done : List AnsweredDeed} {n : Node} {branches' : Trees}
        (l : Label) (k : ℕ) (bodies : Bodies) → OneTurns w rank i branches done n branches' → UseEach slots l k bodies branches →
        UseEach slots l k bodies branches'
    one_uses l k Last (turns.first t) within = tt
    one_uses l k Last (turns.later t) within = tt
    one_uses l k (BodyOf weak body rest) (turns.first t) within = (uses_turn (uses_in_branch slots l k body) t within.0, within.1)
    one_uses l k (BodyOf weak body rest) (turns.later t) within = (within.0, one_uses l (suc k) rest t within.1)

  mutual
    pub woken_uses : (used : ℕ → Bool) (c : Tree) → UsesOnly slots used c → UsesOnly slots used (woken c)
    woken_uses used Nil within = tt
    woken_uses used (Wait s) within = within
    woken_uses used (Test s) within = within
    woken_uses used (Idle body) within = block_uses used body within
    woken_uses used (Do s) within = within
    woken_uses used (Seq c rest) within = (woken_uses used c within.0, within.1)
    woken_uses used (Par s stood branches) within = (within.0, all_woken_use s.label 0 s.bodies branches within.1)
    woken_uses used (Guard s phase stood c) within = (within.0, woken_uses (uses_in slots s.body) c within.1)
    woken_uses used (Run s callee phase stood c) within = within

    all_woken_use : (l : Label) (k : ℕ) (bodies : Bodies) (branches : Trees) → UseEach slots l k bodies branches →
        UseEach slots l k bodies (all_woken branches)
    all_woken_use l k Last branches within = tt
    all_woken_use l k (BodyOf weak body rest) no_tree within = tt
    all_woken_use l k (BodyOf weak body rest) (beside weak' c branches) within =
        (woken_uses (uses_in_branch slots l k body) c within.0, all_woken_use l (suc k) rest branches within.1)
