-- Turns are steps one after another, and what has a turn waits for it.
use Rattle.std.proofs.Common.{◌≡◌, ℕ, Bool, false, List, [], ◌∷◌, ◌++◌, Option, Some, None, inl, inr, refl, sym, subst}
use Rattle.bl_graph_nodes.specs.Nodes.{Node}
use Rattle.bl_graph_nodes.specs.Plain.{Block, Done, Plain, Then}
use Rattle.bl_graph_nodes.specs.Steps as labels
use Rattle.bl_graph_nodes.specs.Steps.{StepLabel, end_node}
use Rattle.bl_ctree.specs.Control.{Body}
use Rattle.bl_ctree.specs.Instances.{Setting}
use Rattle.bl_ctree_laws.specs.Pending.{Deed}
use Rattle.bl_ctree_laws.specs.Steps as moves
use Rattle.bl_ctree_laws.specs.Steps.{Anyway, Moves, OneMoves}
use Rattle.bl_ctree_laws.specs.Trees.{Call, Fork, Tree, Trees, Watch, Nil, Wait, Test, Idle, Do, Seq, Par, Guard, Run, beside, followed, seq}
use Rattle.bl_machine_laws.specs.Numbers.Steps.{Walks, on, stay}
use Rattle.bl_machine_laws.specs.Numbers.Turns as turns
use Rattle.bl_machine_laws.specs.Numbers.Turns.{AnsweredDeed, InstancePoint, OneTurns, Passes, Turns}
use Rattle.bl_machine_laws.specs.Numbers.Waiting.{SomeWaits, Waits, first_in}
use Rattle.bl_ctree_laws.proofs.Diamond.{seq_done}

-- ---- steps that follow one another

pub walk_on : {w : Setting} {i : ℕ} {c : Tree} {done : List AnsweredDeed} {c' : Tree} {others : List AnsweredDeed} {c'' : Tree} →
    Walks w i c done c' → Walks w i c' others c'' → Walks w i c (done ++ others) c''
walk_on stay more = more
walk_on (on m rest) more = on m (walk_on rest more)

one : {w : Setting} {i : ℕ} {c : Tree} {d : Bool} {a : Deed} {n : StepLabel} {c' : Tree} →
    Moves Anyway w i c d a n c' → Walks w i c (record { deed = a; answer = d } ∷ []) c'
one m = on m stay

-- ---- inside a sequence

-- what has not ended is followed by the rest
seq_open : (c : Tree) (rest : Block) → (c ≡ Nil → ⊥) → seq c rest ≡ followed c rest
seq_open Nil rest unended = absurd (unended refl)
seq_open (Wait s) rest unended = refl
seq_open (Test s) rest unended = refl
seq_open (Idle body) rest unended = refl
seq_open (Do s) rest unended = refl
seq_open (Seq c after) rest unended = refl
seq_open (Par s stood branches) rest unended = refl
seq_open (Guard s phase stood c) rest unended = refl
seq_open (Run s callee phase stood c) rest unended = refl

nil_stays : {T : Bool → Type 0} {w : Setting} {i : ℕ} {d : Bool} {a : Deed} {n : StepLabel} {c' : Tree} → Moves T w i Nil d a n c' → ⊥
nil_stays m = elim m [ ]

moving_open : {w : Setting} {i : ℕ} {c : Tree} {d : Bool} {a : Deed} {n : StepLabel} {c' : Tree} → Moves Anyway w i c d a n c' → c ≡ Nil → ⊥
moving_open {w} {i} {c} {d} {a} {n} {c'} m is = nil_stays {T = Anyway} (subst (λ (t : Tree). Moves Anyway w i t d a n c') is m)

-- steps of a tree are steps of it with what follows
walk_after : {w : Setting} {i : ℕ} {c : Tree} {done : List AnsweredDeed} {c' : Tree} (rest : Block) →
    Walks w i c done c' → Walks w i (seq c rest) done (seq c' rest)
walk_after rest stay = stay
walk_after {w} {i} {c} Done (on {d = d} {a = a} {n = n} {c' = c'} {done = done} {c'' = c''} m more) =
    subst (λ (t : Tree). Walks w i t (record { deed = a; answer = d } ∷ done) (seq c'' Done)) (sym (seq_done c))
    (subst (λ (t : Tree). Walks w i c (record { deed = a; answer = d } ∷ done) t) (sym (seq_done c'')) (on m more))
walk_after {w} {i} {c} (Then s rest) (on {d = d} {a = a} {n = n} {c' = c'} {done = done} {c'' = c''} m more) =
    subst (λ (t : Tree). Walks w i t (record { deed = a; answer = d } ∷ done) (seq c'' (Then s rest))) (sym (seq_open c (Then s rest) (moving_open m)))
    (on (moves.in_seq m) (walk_after (Then s rest) more))

-- ---- inside what holds one tree

walk_guard : {w : Setting} {i : ℕ} {c : Tree} {done : List AnsweredDeed} {c' : Tree} (s : Watch) (stood : Bool) →
    Walks w i c done c' → Walks w i (Guard s Body stood c) done (Guard s Body stood c')
walk_guard s stood stay = stay
walk_guard s stood (on m more) = on (moves.in_guard m) (walk_guard s stood more)

walk_run : {w : Setting} {i callee : ℕ} {c : Tree} {done : List AnsweredDeed} {c' : Tree} (s : Call) (stood : Bool) →
    Walks w callee c done c' → Walks w i (Run s callee Body stood c) done (Run s callee Body stood c')
walk_run s stood stay = stay
walk_run s stood (on m more) = on (moves.in_run m) (walk_run s stood more)

-- ---- inside branches

-- steps of branches one after another
data EachWalks (w : Setting) : ℕ → Trees → List AnsweredDeed → Trees → Type 0 where
  stay_all : {i : ℕ} {branches : Trees} → EachWalks w i branches [] branches
  on_one : {i : ℕ} {branches : Trees} {d : Bool} {a : Deed} {n : StepLabel} {branches' : Trees} {done : List AnsweredDeed} {branches'' : Trees} →
      OneMoves Anyway w i branches d a n branches' → EachWalks w i branches' done branches'' →
      EachWalks w i branches (record { deed = a; answer = d } ∷ done) branches''

walk_first : {w : Setting} {i : ℕ} {c : Tree} {done : List AnsweredDeed} {c' : Tree} (weak : Bool) (others : Trees) →
    Walks w i c done c' → EachWalks w i (beside weak c others) done (beside weak c' others)
walk_first weak others stay = stay_all
walk_first weak others (on m more) = on_one (moves.first m tt) (walk_first weak others more)

walk_later : {w : Setting} {i : ℕ} {others : Trees} {done : List AnsweredDeed} {others' : Trees} (weak : Bool) (c : Tree) →
    EachWalks w i others done others' → EachWalks w i (beside weak c others) done (beside weak c others')
walk_later weak c stay_all = stay_all
walk_later weak c (on_one m more) = on_one (moves.later m tt) (walk_later weak c more)

walk_par : {w : Setting} {i : ℕ} {branches : Trees} {done : List AnsweredDeed} {branches' : Trees} (s : Fork) (stood : Bool) →
    EachWalks w i branches done branches' → Walks w i (Par s stood branches) done (Par s stood branches')
walk_par s stood stay_all = stay
walk_par s stood (on_one m more) = on (moves.in_par m) (walk_par s stood more)

-- ---- turns

-- a point is a step
pub point_moves : {w : Setting} {i : ℕ} {c : Tree} {d : Bool} {a : Deed} {n : Node} {c' : Tree} →
    InstancePoint w i c d a n c' → Moves Anyway w i c d a (labels.Here n) c'
point_moves turns.acts = moves.acts
point_moves turns.takes = moves.takes
point_moves turns.passes = moves.passes
point_moves turns.pauses = moves.pauses
point_moves turns.repeats = moves.repeats
point_moves turns.repeats_until = moves.repeats_until
point_moves turns.leaves = moves.leaves
point_moves turns.turns = moves.turns
point_moves turns.enters = moves.enters
point_moves turns.skips = moves.skips
point_moves turns.forks = moves.forks
point_moves turns.guards = moves.guards
point_moves turns.goes_on = moves.goes_on
point_moves turns.waits = moves.waits
point_moves turns.lets = moves.lets
point_moves (turns.aborts is) = moves.aborts is
point_moves (turns.resets is) = moves.resets is
point_moves turns.guard_ends = moves.guard_ends
point_moves (turns.joins settled done) = moves.joins settled done

-- what has a turn has not ended
turn_unended : {w : Setting} {rank : ℕ → Node → ℕ} {i : ℕ} {c : Tree} {done : List AnsweredDeed} {n : Node} {c' : Tree} →
    Turns w rank i c done n c' → c ≡ Nil → ⊥
turn_unended {w} {rank} {i} {c} {done} {n} {c'} t is =
    nil_rests (subst (λ (tree : Tree). Turns w rank i tree done n c') is t)
  where
    nil_point : {d : Bool} {a : Deed} {m : Node} {tree : Tree} → InstancePoint w i Nil d a m tree → ⊥
    nil_point p = elim p [ ]

    nil_rests : {acts : List AnsweredDeed} {m : Node} {tree : Tree} → Turns w rank i Nil acts m tree → ⊥
    nil_rests (turns.point p) = nil_point p

in_sequence : {w : Setting} {i : ℕ} {c : Tree} {done : List AnsweredDeed} {c' : Tree} (s : Plain) (rest : Block) → Walks w i c done c' →
    (c ≡ Nil → ⊥) → Walks w i (Seq c (Then s rest)) done (seq c' (Then s rest))
in_sequence {w} {i} {c} {done} {c'} s rest walk unended =
    subst (λ (t : Tree). Walks w i t done (seq c' (Then s rest))) (seq_open c (Then s rest) unended) (walk_after (Then s rest) walk)

mutual
  pub turn_walks : {w : Setting} {rank : ℕ → Node → ℕ} {i : ℕ} {c : Tree} {done : List AnsweredDeed} {n : Node} {c' : Tree} →
      Turns w rank i c done n c' → Walks w i c done c'
  turn_walks (turns.point p) = one (point_moves p)
  turn_walks (turns.runs called is passes lasts) = on (moves.runs called is) (walk_run _ false (pass_walks passes))
  turn_walks (turns.resumes {stood = stood} passes lasts) = on moves.copies (walk_run _ stood (pass_walks passes))
  turn_walks (turns.returns {stood = stood} passes) = on moves.copies (walk_on (walk_run _ stood (pass_walks passes)) (one moves.run_ends))
  turn_walks (turns.in_seq {s = s} {rest = rest} t) = in_sequence s rest (turn_walks t) (turn_unended t)
  turn_walks (turns.in_par t) = walk_par _ _ (one_walks t)
  turn_walks (turns.in_guard t) = walk_guard _ _ (turn_walks t)

  one_walks : {w : Setting} {rank : ℕ → Node → ℕ} {i : ℕ} {branches : Trees} {done : List AnsweredDeed} {n : Node} {branches' : Trees} →
      OneTurns w rank i branches done n branches' → EachWalks w i branches done branches'
  one_walks (turns.first t) = walk_first _ _ (turn_walks t)
  one_walks (turns.later t) = walk_later _ _ (one_walks t)

  pub pass_walks : {w : Setting} {rank : ℕ → Node → ℕ} {i k : ℕ} {c : Tree} {done : List AnsweredDeed} {c' : Tree} →
      Passes w rank i k c done c' → Walks w i c done c'
  pass_walks (turns.rests settled) = stay
  pass_walks (turns.goes before t more) = walk_on (turn_walks t) (pass_walks more)

-- ---- what waits

point_waits : {w : Setting} {i : ℕ} {c : Tree} {d : Bool} {a : Deed} {n : Node} {c' : Tree} (next : Option Node) →
    InstancePoint w i c d a n c' → Waits c next n
point_waits next turns.acts = refl
point_waits next turns.takes = refl
point_waits next turns.passes = refl
point_waits next turns.pauses = refl
point_waits next turns.repeats = refl
point_waits next turns.repeats_until = refl
point_waits next turns.leaves = refl
point_waits next turns.turns = refl
point_waits next turns.enters = refl
point_waits next turns.skips = refl
point_waits next turns.forks = refl
point_waits next turns.guards = refl
point_waits next turns.goes_on = refl
point_waits next turns.waits = refl
point_waits next turns.lets = inl refl
point_waits next (turns.aborts is) = inl refl
point_waits next (turns.resets is) = inl refl
point_waits next turns.guard_ends = refl
point_waits next (turns.joins settled done) = inr (done, refl)

mutual
  pub turn_waits : {w : Setting} {rank : ℕ → Node → ℕ} {i : ℕ} {c : Tree} {done : List AnsweredDeed} {n : Node} {c' : Tree} (next : Option Node) →
      Turns w rank i c done n c' → Waits c next n
  turn_waits next (turns.point p) = point_waits next p
  turn_waits next (turns.runs called is passes lasts) = refl
  turn_waits next (turns.resumes passes lasts) = refl
  turn_waits next (turns.returns passes) = refl
  turn_waits next (turns.in_seq {s = s} {rest = rest} t) = turn_waits (first_in (Then s rest) next) t
  turn_waits next (turns.in_par t) = inl (one_waits t)
  turn_waits next (turns.in_guard {s = s} {stood = stood} t) = turn_waits (Some (end_node stood s.label s.place)) t

  one_waits : {w : Setting} {rank : ℕ → Node → ℕ} {i : ℕ} {branches : Trees} {done : List AnsweredDeed} {n : Node} {branches' : Trees} →
      OneTurns w rank i branches done n branches' → SomeWaits branches n
  one_waits (turns.first t) = inl (turn_waits None t)
  one_waits (turns.later t) = inr (one_waits t)
