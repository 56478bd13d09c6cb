-- What a point keeps of what is called, and of branches that run apart.
use Rattle.std.proofs.Common.{◌⊎◌, inl, inr, ℕ, Bool}
use Rattle.bl_tree.specs.declared.place.Place.{Place}
use Rattle.bl_graph_nodes.specs.Nodes.{Node}
use Rattle.bl_graph_nodes.specs.Plain.{Block, Bodies, Body as BodyOf, Done, Last, Plain, Then}
use Rattle.bl_graph_nodes.specs.Plain as plain
use Rattle.bl_ctree.specs.Instances.{Setting}
use Rattle.bl_ctree_laws.specs.Pending.{Deed}
use Rattle.bl_ctree_laws.specs.Steps.{turn}
use Rattle.bl_ctree_laws.specs.Trees.{Tree, Nil, Wait, Test, Idle, Do, Seq, Par, Guard, Run, before, trees_begun, do_block, seq}
use Rattle.bl_ctree_laws_confluence.specs.Apart.Forks.{EachFork, EachForkIn, EachForkInEach}
use Rattle.bl_ctree_laws_confluence.specs.Apart.Owned.{RunsAt, SomeIn, SomeInEach, SomeOf}
use Rattle.bl_ctree_laws_confluence.specs.Apart.Running.{RunApart}
use Rattle.bl_machine.specs.Uses.{Slots}
use Rattle.bl_machine_laws.specs.Numbers.Turns as turns
use Rattle.bl_machine_laws.specs.Numbers.Turns.{InstancePoint}
use Rattle.bl_machine_pass_laws_execution.specs.Frames.{AllCallsMatchTree, CallsMatchTree, Frames}
use Rattle.bl_machine_pass_laws_execution.specs.Passes.Standing.{AllCallsRest, CallsRest, EachRunsApart, OneRunsIn, RunsApart, RunsIn}

-- ---- bodies that begin

pub block_holds : (slots : ℕ → Slots) (frames : Frames) (body : Block) → CallsMatchTree slots frames (do_block body)
block_holds slots frames Done = tt
block_holds slots frames (Then s Done) = tt
block_holds slots frames (Then s (Then next rest)) = tt

pub block_rests : (w : Setting) (slots : ℕ → Slots) (body : Block) → CallsRest w slots (do_block body)
block_rests w slots Done = tt
block_rests w slots (Then s Done) = tt
block_rests w slots (Then s (Then next rest)) = tt

pub block_apart : (body : Block) → EachForkIn RunApart body → RunsApart (do_block body)
block_apart Done forks = tt
block_apart (Then s Done) forks = forks.0
block_apart (Then s (Then next rest)) forks = forks

pub block_runs : (body : Block) (place : Place) → RunsIn place (do_block body) → SomeIn (RunsAt place) body
block_runs Done place there = absurd there
block_runs (Then s Done) place there = inl there
block_runs (Then s (Then next rest)) place there = there

begun_holds : (slots : ℕ → Slots) (frames : Frames) (bodies : Bodies) → AllCallsMatchTree slots frames (trees_begun bodies)
begun_holds slots frames Last = tt
begun_holds slots frames (BodyOf weak body rest) = (block_holds slots frames body, begun_holds slots frames rest)

begun_rests : (w : Setting) (slots : ℕ → Slots) (bodies : Bodies) → AllCallsRest w slots (trees_begun bodies)
begun_rests w slots Last = tt
begun_rests w slots (BodyOf weak body rest) = (block_rests w slots body, begun_rests w slots rest)

begun_apart : (bodies : Bodies) → EachForkInEach RunApart bodies → EachRunsApart bodies (trees_begun bodies)
begun_apart Last forks = tt
begun_apart (BodyOf weak body rest) forks = (block_runs body, block_apart body forks.0, begun_apart rest forks.1)

begun_runs : (bodies : Bodies) (place : Place) → OneRunsIn place (trees_begun bodies) → SomeInEach (RunsAt place) bodies
begun_runs Last place there = absurd there
begun_runs (BodyOf weak body rest) place (inl there) = inl (block_runs body place there)
begun_runs (BodyOf weak body rest) place (inr there) = inr (begun_runs rest place there)

before_forks : (body after : Block) → EachForkIn RunApart body → EachForkIn RunApart after → EachForkIn RunApart (before body after)
before_forks Done after one other = other
before_forks (Then s rest) after one other = (one.0, before_forks rest after one.1 other)

before_some : (P : Plain → Type 0) (body after : Block) → SomeIn P (before body after) → SomeIn P body ⊎ SomeIn P after
before_some P Done after there = inr there
before_some P (Then s rest) after (inl there) = inl (inl there)
before_some P (Then s rest) after (inr there) = by_part (before_some P rest after there)
  where
    by_part : SomeIn P rest ⊎ SomeIn P after → SomeIn P (Then s rest) ⊎ SomeIn P after
    by_part (inl h) = inl (inr h)
    by_part (inr h) = inr h

-- ---- what a turn keeps

-- what is called holds and rests in the next tree, its branches run apart, and it runs nothing more
pub record Kept (w : Setting) (slots : ℕ → Slots) (frames : Frames) (c c' : Tree) : Type 0 where
  pub holds : CallsMatchTree slots frames c'
  pub rests : CallsRest w slots c'
  pub apart : RunsApart c'
  pub runs : (place : Place) → RunsIn place c' → RunsIn place c

pub ended : (w : Setting) (slots : ℕ → Slots) (frames : Frames) (c : Tree) → Kept w slots frames c Nil
ended w slots frames c = record { holds = tt; rests = tt; apart = tt; runs = λ place there. absurd there }

block_kept : (w : Setting) (slots : ℕ → Slots) (frames : Frames) (c : Tree) (body : Block) → EachForkIn RunApart body →
    ((place : Place) → SomeIn (RunsAt place) body → RunsIn place c) → Kept w slots frames c (do_block body)
block_kept w slots frames c body forks runs = record {
  holds = block_holds slots frames body;
  rests = block_rests w slots body;
  apart = block_apart body forks;
  runs = λ place there. runs place (block_runs body place there);
}

loop_kept : (w : Setting) (slots : ℕ → Slots) (frames : Frames) (c : Tree) (body : Block) (next : Plain) → EachForkIn RunApart body →
    EachFork RunApart next → ((place : Place) → SomeIn (RunsAt place) body → RunsIn place c) →
    ((place : Place) → SomeOf (RunsAt place) next → RunsIn place c) → Kept w slots frames c (do_block (turn body next))
loop_kept w slots frames c body next forks fork runs again =
    block_kept w slots frames c (turn body next) (before_forks body (Then next Done) forks (fork, tt))
    (λ place there. by_part place (before_some (RunsAt place) body (Then next Done) there))
  where
    by_part : (place : Place) → SomeIn (RunsAt place) body ⊎ SomeIn (RunsAt place) (Then next Done) → RunsIn place c
    by_part place (inl h) = runs place h
    by_part place (inr (inl h)) = again place h
    by_part place (inr (inr h)) = absurd h

pub point_kept : {w : Setting} {i : ℕ} {c : Tree} {d : Bool} {a : Deed} {n : Node} {c' : Tree} → InstancePoint w i c d a n c' → (slots : ℕ → Slots)
    (frames : Frames) → CallsMatchTree slots frames c → CallsRest w slots c → RunsApart c → Kept w slots frames c c'
point_kept {w} {c = c} turns.acts slots frames holds rests apart = ended w slots frames c
point_kept {w} {c = c} (turns.takes {body = body}) slots frames holds rests apart =
    block_kept w slots frames c body apart.0 (λ place there. inr (inl there))
point_kept {w} {c = c} (turns.passes {other = other}) slots frames holds rests apart =
    block_kept w slots frames c other apart.1 (λ place there. inr (inr there))
point_kept {w} {c = c} turns.pauses slots frames holds rests apart =
    record { holds = tt; rests = tt; apart = tt; runs = λ place there. absurd there }
point_kept {w} {c = c} (turns.repeats {l = l} {at = at} {body = body}) slots frames holds rests apart =
    loop_kept w slots frames c body (plain.Repeat l at body) apart apart (λ place there. inr there) (λ place there. there)
point_kept {w} {c = c} (turns.repeats_until {l = l} {at = at} {body = body} {e = e}) slots frames holds rests apart =
    loop_kept w slots frames c body (plain.Again l at body e) apart apart (λ place there. inr there) (λ place there. there)
point_kept {w} {c = c} turns.leaves slots frames holds rests apart = ended w slots frames c
point_kept {w} {c = c} turns.turns slots frames holds rests apart =
    record { holds = tt; rests = tt; apart = apart; runs = λ place there. there }
point_kept {w} {c = c} (turns.enters {l = l} {at = at} {e = e} {body = body}) slots frames holds rests apart =
    loop_kept w slots frames c body (plain.While l at e body) apart apart (λ place there. inr there) (λ place there. there)
point_kept {w} {c = c} turns.skips slots frames holds rests apart = ended w slots frames c
point_kept {w} {c = c} (turns.forks {bodies = bodies}) slots frames holds rests apart = record {
  holds = begun_holds slots frames bodies;
  rests = begun_rests w slots bodies;
  apart = (apart.0, apart.1, begun_apart bodies apart.1);
  runs = λ place there. by_part place there;
}
  where
    by_part : (place : Place) → SomeInEach (RunsAt place) bodies ⊎ OneRunsIn place (trees_begun bodies) → ⊥ ⊎ SomeInEach (RunsAt place) bodies
    by_part place (inl h) = inr h
    by_part place (inr h) = inr (begun_runs bodies place h)
point_kept {w} {c = c} (turns.guards {body = body}) slots frames holds rests apart = record {
  holds = block_holds slots frames body;
  rests = block_rests w slots body;
  apart = (apart, block_apart body apart);
  runs = λ place there. by_part place there;
}
  where
    by_part : (place : Place) → SomeIn (RunsAt place) body ⊎ RunsIn place (do_block body) → ⊥ ⊎ SomeIn (RunsAt place) body
    by_part place (inl h) = inr h
    by_part place (inr h) = inr (block_runs body place h)
point_kept {w} {c = c} turns.goes_on slots frames holds rests apart = ended w slots frames c
point_kept {w} {c = c} turns.waits slots frames holds rests apart =
    record { holds = tt; rests = tt; apart = tt; runs = λ place there. absurd there }
point_kept {w} {c = c} turns.lets slots frames holds rests apart =
    record { holds = holds; rests = rests; apart = apart; runs = λ place there. there }
point_kept {w} {c = c} (turns.aborts is) slots frames holds rests apart = ended w slots frames c
point_kept {w} {c = c} (turns.resets {s = s} {c = inner} is) slots frames holds rests apart = record {
  holds = block_holds slots frames s.body;
  rests = block_rests w slots s.body;
  apart = (apart.0, block_apart s.body apart.0);
  runs = λ place there. by_part place there;
}
  where
    by_part : (place : Place) → SomeIn (RunsAt place) s.body ⊎ RunsIn place (do_block s.body) → SomeIn (RunsAt place) s.body
        ⊎ RunsIn place inner
    by_part place (inl h) = inl h
    by_part place (inr h) = inl (block_runs s.body place h)
point_kept {w} {c = c} turns.guard_ends slots frames holds rests apart = ended w slots frames c
point_kept {w} {c = c} (turns.joins settled done) slots frames holds rests apart = ended w slots frames c

-- before what follows
pub seq_kept : (w : Setting) (slots : ℕ → Slots) (frames : Frames) (c c' : Tree) (s : Plain) (rest : Block) →
    EachForkIn RunApart (Then s rest) →
    Kept w slots frames c c' → Kept w slots frames (Seq c (Then s rest)) (seq c' (Then s rest))
seq_kept w slots frames c c' s rest forks kept = by_tree c' kept
  where
    still : (t : Tree) → Kept w slots frames c t → Kept w slots frames (Seq c (Then s rest)) (Seq t (Then s rest))
    still t k = record { holds = k.holds; rests = k.rests; apart = (k.apart, forks); runs = λ place there. by_part place there }
      where
        by_part : (place : Place) → RunsIn place t ⊎ SomeIn (RunsAt place) (Then s rest) → RunsIn place c
            ⊎ SomeIn (RunsAt place) (Then s rest)
        by_part place (inl h) = inl (k.runs place h)
        by_part place (inr h) = inr h

    by_tree : (t : Tree) → Kept w slots frames c t → Kept w slots frames (Seq c (Then s rest)) (seq t (Then s rest))
    by_tree Nil k = block_kept w slots frames (Seq c (Then s rest)) (Then s rest) forks (λ place there. inr there)
    by_tree (Wait x) k = still (Wait x) k
    by_tree (Test x) k = still (Test x) k
    by_tree (Idle body) k = still (Idle body) k
    by_tree (Do x) k = still (Do x) k
    by_tree (Seq t more) k = still (Seq t more) k
    by_tree (Par x stood branches) k = still (Par x stood branches) k
    by_tree (Guard x phase stood t) k = still (Guard x phase stood t) k
    by_tree (Run x callee phase stood t) k = still (Run x callee phase stood t) k
