-- Trees stay under the `when`s in which what is left of them is written.
use Rattle.std.proofs.Common.{ℕ, suc, Bool, inl, inr, List, [], ◌∷◌, sym, arith}
use Rattle.std.specs.Prelude.{Contains}
use Rattle.bl_graph_nodes.specs.Nodes.{Node}
use Rattle.bl_graph_nodes.specs.Plain.{Block, Bodies, Body as BodyOf, Done, Label, Last, Plain, Repeat, Then, plain_body}
use Rattle.bl_ctree.specs.Instances.{Setting}
use Rattle.bl_ctree_laws.specs.Steps.{turn}
use Rattle.bl_ctree_laws.specs.Trees.{Tree, Trees, Nil, Wait, Test, Idle, Do, Seq, Par, Guard, Run, all_woken, before, trees_begun, beside, do_block, no_tree}
use Rattle.bl_ctree_laws.specs.Trees.{seq, woken}
use Rattle.bl_machine.specs.Uses.{Slots}
use Rattle.bl_machine_laws.specs.Numbers.Turns as turns
use Rattle.bl_machine_laws.specs.Numbers.Turns.{AnsweredDeed, InstancePoint, OneTurns, Turns}
use Rattle.bl_ctree_laws.specs.Pending.{Deed}
use Rattle.bl_machine_pass.specs.SlotLayout.{Spot, spots_in}
use Rattle.bl_machine_pass.specs.Transitions.{Finishes, Transition, rules}
use Rattle.bl_machine_pass_laws.specs.Turns.Rooted.{AllRooted, Around, HeldEach, HeldIn, Rooted, StaysRooted, in_branch, in_none, in_when}
use Rattle.bl_machine_pass_laws.specs.Spots.{Has, SpotsDiffer}
use Rattle.bl_machine_pass_laws.proofs.OnRooted.Holding.{held_in}
use Rattle.bl_tree.proofs.FirstLemmas.{contains_in}

pub has_contains : (xs : List Spot) (p : Spot) → Has xs p → Contains xs p
has_contains [] p h = absurd h
has_contains (x ∷ xs) p (inl is) = (0, omega arith, sym is)
has_contains (x ∷ xs) p (inr h) = let one = has_contains xs p h in let below = one.1 in (suc one.0, omega arith, one.2)

module _ (slots : Slots) (all : List Transition) where
  -- ---- blocks that begin

  rooted_block : (around : Around) (body : Block) → HeldIn slots all around body → Rooted slots all around (do_block body)
  rooted_block around Done held = tt
  rooted_block around (Then s Done) held = held.0
  rooted_block around (Then s (Then next rest)) held = (held.0, held.1)

  rooted_seq : (around : Around) (c : Tree) (rest : Block) → Rooted slots all around c → HeldIn slots all around rest →
      Rooted slots all around (seq c rest)
  rooted_seq around Nil rest rooted held = rooted_block around rest held
  rooted_seq around (Wait s) Done rooted held = rooted
  rooted_seq around (Wait s) (Then p rest) rooted held = (rooted, held)
  rooted_seq around (Test s) Done rooted held = rooted
  rooted_seq around (Test s) (Then p rest) rooted held = (rooted, held)
  rooted_seq around (Idle body) Done rooted held = rooted
  rooted_seq around (Idle body) (Then p rest) rooted held = (rooted, held)
  rooted_seq around (Do s) Done rooted held = rooted
  rooted_seq around (Do s) (Then p rest) rooted held = (rooted, held)
  rooted_seq around (Seq c after) Done rooted held = rooted
  rooted_seq around (Seq c after) (Then p rest) rooted held = (rooted, held)
  rooted_seq around (Par s stood branches) Done rooted held = rooted
  rooted_seq around (Par s stood branches) (Then p rest) rooted held = (rooted, held)
  rooted_seq around (Guard s phase stood c) Done rooted held = rooted
  rooted_seq around (Guard s phase stood c) (Then p rest) rooted held = (rooted, held)
  rooted_seq around (Run s callee phase stood c) Done rooted held = rooted
  rooted_seq around (Run s callee phase stood c) (Then p rest) rooted held = (rooted, held)

  held_before : (around : Around) (body after : Block) → HeldIn slots all around body → HeldIn slots all around after →
      HeldIn slots all around (before body after)
  held_before around Done after one two = two
  held_before around (Then s rest) after one two = (one.0, held_before around rest after one.1 two)

  begun_rooted : (around : Around) (l : Label) (k : ℕ) (bodies : Bodies) → HeldEach slots all around l k bodies →
      AllRooted slots all around l k (trees_begun bodies)
  begun_rooted around l k Last held = tt
  begun_rooted around l k (BodyOf weak body rest) held =
      (rooted_block (in_branch k around) body held.1, begun_rooted around l (suc k) rest held.2)

  -- ---- waking

  mutual
    woken_rooted : (around : Around) (c : Tree) → Rooted slots all around c → Rooted slots all around (woken c)
    woken_rooted around Nil rooted = tt
    woken_rooted around (Wait s) rooted = rooted
    woken_rooted around (Test s) rooted = rooted
    woken_rooted around (Idle body) rooted = rooted_block around body rooted
    woken_rooted around (Do s) rooted = rooted
    woken_rooted around (Seq c rest) rooted = (woken_rooted around c rooted.0, rooted.1)
    woken_rooted around (Par s stood branches) rooted = (rooted.0, all_woken_rooted around s.label 0 branches rooted.1)
    woken_rooted around (Guard s phase stood c) rooted =
        (rooted.0, woken_rooted (in_when slots s.label s.place s.test s.body around) c rooted.1)
    woken_rooted around (Run s callee phase stood c) rooted = rooted

    all_woken_rooted : (around : Around) (l : Label) (k : ℕ) (branches : Trees) → AllRooted slots all around l k branches →
        AllRooted slots all around l k (all_woken branches)
    all_woken_rooted around l k no_tree rooted = tt
    all_woken_rooted around l k (beside weak c rest) rooted =
        (woken_rooted (in_branch k around) c rooted.0, all_woken_rooted around l (suc k) rest rooted.1)

  -- ---- turns

  point_rooted : {w : Setting} {i : ℕ} {c : Tree} {d : Bool} {a : Deed} {n : Node} {c' : Tree} (around : Around) →
      InstancePoint w i c d a n c' → Rooted slots all around c → Rooted slots all around c'
  point_rooted around turns.acts rooted = tt
  point_rooted around (turns.takes {body = body}) rooted = rooted_block around body rooted.0
  point_rooted around (turns.passes {other = other}) rooted = rooted_block around other rooted.1
  point_rooted around turns.pauses rooted = rooted
  point_rooted around (turns.repeats {l = l} {at = at} {body = body}) rooted =
      rooted_block around (turn body (Repeat l at body)) (held_before around body (Then (Repeat l at body) Done) rooted (rooted, tt))
  point_rooted around (turns.repeats_until {body = body}) rooted =
      rooted_block around (turn body _) (held_before around body _ rooted (rooted, tt))
  point_rooted around turns.leaves rooted = tt
  point_rooted around turns.turns rooted = rooted
  point_rooted around (turns.enters {body = body}) rooted = rooted_block around (turn body _) (held_before around body _ rooted (rooted, tt))
  point_rooted around turns.skips rooted = tt
  point_rooted around (turns.forks {l = l} {bodies = bodies}) rooted = (rooted, begun_rooted around l 0 bodies rooted)
  point_rooted around (turns.guards {l = l} {at = at} {e = e} {body = body}) rooted =
      (rooted, rooted_block (in_when slots l at e body around) body rooted)
  point_rooted around turns.goes_on rooted = tt
  point_rooted around turns.waits rooted = rooted
  point_rooted around turns.lets rooted = rooted
  point_rooted around (turns.aborts is) rooted = tt
  point_rooted around (turns.resets {s = s} is) rooted =
      (rooted.0, rooted_block (in_when slots s.label s.place s.test s.body around) s.body rooted.0)
  point_rooted around turns.guard_ends rooted = tt
  point_rooted around (turns.joins settled done) rooted = tt

  mutual
    turn_rooted : {w : Setting} {rank : ℕ → Node → ℕ} {i : ℕ} {c : Tree} {done : List AnsweredDeed} {n : Node} {c' : Tree} (around : Around) →
        Turns w rank i c done n c' → Rooted slots all around c → Rooted slots all around c'
    turn_rooted around (turns.point p) rooted = point_rooted around p rooted
    turn_rooted around (turns.runs called is passes unended) rooted = rooted
    turn_rooted around (turns.resumes passes unended) rooted = rooted
    turn_rooted around (turns.returns passes) rooted = tt
    turn_rooted around (turns.in_seq {s = s} {rest = rest} {c' = c'} t) rooted =
        rooted_seq around c' (Then s rest) (turn_rooted around t rooted.0) rooted.1
    turn_rooted around (turns.in_par {s = s} t) rooted = (rooted.0, one_rooted around s.label 0 t rooted.1)
    turn_rooted around (turns.in_guard {s = s} t) rooted =
        (rooted.0, turn_rooted (in_when slots s.label s.place s.test s.body around) t rooted.1)

    one_rooted : {w : Setting} {rank : ℕ → Node → ℕ} {i : ℕ} {c : Trees} {done : List AnsweredDeed} {n : Node} {c' : Trees} (around : Around)
        (l : Label) (k : ℕ) → OneTurns w rank i c done n c' → AllRooted slots all around l k c → AllRooted slots all around l k c'
    one_rooted around l k (turns.first t) rooted = (turn_rooted (in_branch k around) t rooted.0, rooted.1)
    one_rooted around l k (turns.later t) rooted = (rooted.0, one_rooted around l (suc k) t rooted.1)

-- ---- whole bodies

pub stays_rooted : SpotsDiffer → StaysRooted
stays_rooted differ = record {
  begins = λ slots unit laid.
      let body : Block = plain_body unit.body in
      rooted_block slots (rules slots body) (in_none body) body
      (held_in slots (rules slots body) (spots_in body)
      (λ p q one two same. laid.alone p q (has_contains (spots_in body) p one) (has_contains (spots_in body) q two) same) (in_none body) body Finishes
      (differ unit.body []) (λ p h. h) (λ p h. has_contains (spots_in body) p h)
      (λ rule p here has asks. inr (contains_in rule (rules slots body) here)) (λ slot h. tt));
  wakes = λ slots body c rooted. woken_rooted slots (rules slots body) (in_none body) c rooted;
  turns = λ w rank i slots body c done n c' turn rooted. turn_rooted slots (rules slots body) (in_none body) turn rooted;
}
