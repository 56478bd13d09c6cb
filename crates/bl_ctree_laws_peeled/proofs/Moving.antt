-- The steps of a tree are those of its line's head.
use Rattle.std.proofs.Common.{◌≡◌, ℕ, Bool, true, refl, ◌∙◌}
use Rattle.bl_tree.proofs.Basics.{and_first, and_second}
use Rattle.bl_graph_nodes.specs.Plain.{Block, Done}
use Rattle.bl_graph_nodes.specs.Steps.{StepLabel}
use Rattle.bl_ctree.specs.Instances.{Setting}
use Rattle.bl_ctree_laws.specs.Pending.{Deed}
use Rattle.bl_ctree_laws.specs.Steps.{Moves, acts, takes, passes, pauses, runs, repeats, repeats_until, leaves, turns, enters, skips, forks, guards, goes_on}
use Rattle.bl_ctree_laws.specs.Steps.{waits, lets, aborts, resets, guard_ends, copies, run_ends, joins, in_seq, in_par, in_guard, in_run}
use Rattle.bl_ctree_laws.specs.Trees.{Tree, Nil, Wait, Test, Idle, Do, Seq, Par, Guard, Run, before, seq}
use Rattle.bl_ctree_laws_peeled.specs.Lines.{Line, At, Over, is_chain, is_under_way, line}
use Rattle.bl_ctree_laws_peeled.proofs.Lining.{Begun, begun_block, begun_seq, line_seq}

abbrev pub head_in : Line → Tree
head_in Over = Nil
head_in (At c k) = c

abbrev pub rest_in : Line → Block
rest_in Over = Done
rest_in (At c k) = k

-- a tree steps as its line's head does
pub record HeadMoves (T : Bool → Type 0) (w : Setting) (i : ℕ) (c : Tree) (k : Block) (d : Bool) (a : Deed) (n : StepLabel) (h : Tree) (m : Block) :
    Type 0 where
  pub after : Tree
  pub moves : Moves T w i c d a n after
  pub leads : line after k ≡ line h m

module _ {T : Bool → Type 0} {w : Setting} where
  -- what a step leaves of a chain
  pub begun : {i : ℕ} {c : Tree} {d : Bool} {a : Deed} {n : StepLabel} {c' : Tree} → Moves T w i c d a n c' → is_chain c ≡ true → Begun c'
  begun acts chain = record { chain = refl; awake = refl }
  begun (takes {body = body}) chain = begun_block body
  begun (passes {other = other}) chain = begun_block other
  begun pauses chain = record { chain = refl; awake = refl }
  begun (runs at there) chain = record { chain = refl; awake = refl }
  begun repeats chain = begun_block _
  begun repeats_until chain = begun_block _
  begun leaves chain = record { chain = refl; awake = refl }
  begun turns chain = record { chain = refl; awake = refl }
  begun enters chain = begun_block _
  begun skips chain = record { chain = refl; awake = refl }
  begun forks chain = record { chain = refl; awake = refl }
  begun guards chain = record { chain = refl; awake = refl }
  begun goes_on chain = record { chain = refl; awake = refl }
  begun waits chain = record { chain = refl; awake = refl }
  begun lets chain = record { chain = refl; awake = refl }
  begun (aborts is) chain = record { chain = refl; awake = refl }
  begun (resets is) chain = record { chain = refl; awake = refl }
  begun guard_ends chain = record { chain = refl; awake = refl }
  begun copies chain = record { chain = refl; awake = refl }
  begun run_ends chain = record { chain = refl; awake = refl }
  begun (joins still done) chain = record { chain = refl; awake = refl }
  begun (in_seq {c = c} {rest} {c' = c'} move) chain = begun_seq c' rest (begun move (and_second (is_under_way c) (is_chain c) chain))
  begun (in_par move) chain = record { chain = refl; awake = refl }
  begun (in_guard move) chain = record { chain = refl; awake = refl }
  begun (in_run move) chain = record { chain = refl; awake = refl }

  pub head_moves : {i : ℕ} {d : Bool} {a : Deed} {n : StepLabel} {h : Tree} (c : Tree) (k : Block) → is_under_way c ≡ true → is_chain c ≡ true →
      Moves T w i (head_in (line c k)) d a n h → HeadMoves T w i c k d a n h (rest_in (line c k))
  head_moves Nil k going chain move = absurd cc
  head_moves (Wait p) k going chain move = record { after = _; moves = move; leads = refl }
  head_moves (Test p) k going chain move = record { after = _; moves = move; leads = refl }
  head_moves (Idle p) k going chain move = absurd cc
  head_moves (Do p) k going chain move = record { after = _; moves = move; leads = refl }
  head_moves (Seq c rest) k going chain move =
      followed (head_moves c (before rest k) (and_first (is_under_way c) (is_chain c) chain) (and_second (is_under_way c) (is_chain c) chain) move)
    where
      followed : {i : ℕ} {d : Bool} {a : Deed} {n : StepLabel} {h : Tree} {m : Block} → HeadMoves T w i c (before rest k) d a n h m →
          HeadMoves T w i (Seq c rest) k d a n h m
      followed one = record { after = seq one.after rest; moves = in_seq one.moves; leads = line_seq one.after rest k ∙ one.leads }
  head_moves (Par p stood branches) k going chain move = record { after = _; moves = move; leads = refl }
  head_moves (Guard p phase stood c) k going chain move = record { after = _; moves = move; leads = refl }
  head_moves (Run p callee phase stood c) k going chain move = record { after = _; moves = move; leads = refl }

  -- a whole tree that steps has begun and not ended
  pub whole_moves : {i : ℕ} {d : Bool} {a : Deed} {n : StepLabel} {h : Tree} (c : Tree) → is_chain c ≡ true →
      Moves T w i (head_in (line c Done)) d a n h → HeadMoves T w i c Done d a n h (rest_in (line c Done))
  whole_moves Nil chain move = elim move [ ]
  whole_moves (Wait p) chain move = head_moves (Wait p) Done refl chain move
  whole_moves (Test p) chain move = head_moves (Test p) Done refl chain move
  whole_moves (Idle p) chain move = elim move [ ]
  whole_moves (Do p) chain move = head_moves (Do p) Done refl chain move
  whole_moves (Seq c rest) chain move = head_moves (Seq c rest) Done refl chain move
  whole_moves (Par p stood branches) chain move = head_moves (Par p stood branches) Done refl chain move
  whole_moves (Guard p phase stood c) chain move = head_moves (Guard p phase stood c) Done refl chain move
  whole_moves (Run p callee phase stood c) chain move = head_moves (Run p callee phase stood c) Done refl chain move
