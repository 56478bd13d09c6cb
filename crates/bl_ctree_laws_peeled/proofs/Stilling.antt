-- Where the second of two related trees can step the first can.
use Rattle.std.proofs.Common.{◌≡◌, ◌⊎◌, inl, inr, ℕ, Bool, true, false, Option, Some, refl, sym, ap, ◌∙◌, subst}
use Rattle.std.specs.Prelude.{position}
use Rattle.bl_tree.specs.declared.place.Place.{Place}
use Rattle.bl_tree.specs.declared.tree.Unit.{Unit as UnitDef}
use Rattle.bl_graph_nodes.specs.Nodes.{Node}
use Rattle.bl_graph_nodes.specs.Plain.{Block, Plain, Done}
use Rattle.bl_graph_nodes.specs.Steps.{StepLabel}
use Rattle.bl_ctree.specs.Actions.{Asks, Copies, Gives, Silent}
use Rattle.bl_ctree.specs.Control.{Body}
use Rattle.bl_ctree.specs.Instances.{Setting, begins_at, callee_of}
use Rattle.bl_ctree_laws.specs.Pending.{Deed, any_meets, deed, meets}
use Rattle.bl_ctree_laws.specs.Steps.{Moves, OneMoves, Unmet, acts, takes, passes, pauses, runs, repeats, repeats_until, leaves, turns, enters, skips, forks}
use Rattle.bl_ctree_laws.specs.Steps.{guards, goes_on, waits, lets, aborts, resets, guard_ends, copies, run_ends, joins, in_seq, in_par, in_guard, in_run}
use Rattle.bl_ctree_laws.specs.Steps.{first, later}
use Rattle.bl_ctree_laws.specs.Trees.{Call, Fork, Tree, Trees, Watch, Nil, Do, Guard, Par, Run, before, beside}
use Rattle.bl_ctree_laws_peeled.specs.Answers.{SameDeed}
use Rattle.bl_ctree_laws_peeled.specs.Lines.{Line, Lined, Related, RelatedEach, At, both_begin, both_fork, both_guard, both_run, both_stand, both_test}
use Rattle.bl_ctree_laws_peeled.specs.Lines.{is_chain, line, one_branch, related}
use Rattle.bl_ctree_laws_peeled.specs.Settings.{SameProgram, UnitUnrolls, no_unit, one_unit}
use Rattle.bl_ctree_laws_peeled.specs.Steps.{StepsBack, StillIsRelated}
use Rattle.bl_ctree_laws_peeled.specs.Unrolls.{PlainUnrolls, acts_alike, again_if, agains_alike, awaits_alike, cobegins_alike, first_alike, first_repeat}
use Rattle.bl_ctree_laws_peeled.specs.Unrolls.{first_until, ifs_alike, repeats_alike, runs_alike, untils_alike, whens_alike, while_if, whiles_alike}
use Rattle.bl_ctree_laws_peeled.proofs.Moving.{head_in, whole_moves}
use Rattle.bl_ctree_laws_peeled.proofs.Relating.{any_meets_same, any_silent_meets, each_answers, meets_same, related_answers, same_done, silent_meets}
use Rattle.bl_ctree_laws_peeled.proofs.Stepping.{nil_is}
use Rattle.bl_ctree_laws_peeled.proofs.Stepping.{no_some, same_deed}

-- the unit of an instance, where its counterpart has one
record UnitThere (unit : Option UnitDef) : Type 0 where
  there : UnitDef
  is : unit ≡ Some there

unit_there : {H : Node → Plain → Type 0} {one other : Option UnitDef} {unit : UnitDef} → UnitUnrolls H one other → other ≡ Some unit → UnitThere one
unit_there {unit = unit} no_unit e = no_some unit e
unit_there (one_unit unrolls) e = record { there = _; is = refl }

-- the first of two lists of branches can step
record EachStepsBack (w : Setting) (i : ℕ) (branches : Trees) (a : Deed) : Type 0 where
  answer : Bool
  does_deed : Deed
  label : StepLabel
  after : Trees
  moves : OneMoves Unmet w i branches answer does_deed label after
  does : does_deed.effect ≡ Silent ⊎ SameDeed does_deed a

like : {w : Setting} {i : ℕ} {c : Tree} {d e : Bool} {a b : Deed} {n : StepLabel} {c' : Tree} → Moves Unmet w i c e b n c' → SameDeed b a → StepsBack w i c d a
like move deed = record { answer = _; deed = _; label = _; after = _; moves = move; does = inr deed }

silently : {w : Setting} {i : ℕ} {c : Tree} {d e : Bool} {a b : Deed} {n : StepLabel} {c' : Tree} → Moves Unmet w i c e b n c' → b.effect ≡ Silent →
    StepsBack w i c d a
silently move silent = record { answer = _; deed = _; label = _; after = _; moves = move; does = inl silent }

module _ {H : ℕ → Node → Plain → Type 0} {w w' : Setting} (same : SameProgram H w w') where
  called : (i : ℕ) (at : Place) {callee : ℕ} → callee_of w' i at ≡ Some callee → callee_of w i at ≡ Some callee
  called i at at_callee = ap (λ all. position (λ instance. begins_at i at instance.origin) all) same.instances ∙ at_callee

  -- a statement that begins, where its counterpart is alike
  back_alike : {i : ℕ} {s t : Plain} {d : Bool} {a : Deed} {n : StepLabel} {t' : Tree} → Moves Unmet w' i (Do t) d a n t' → PlainUnrolls (H i) s t →
      StepsBack w i (Do s) d a
  back_alike acts acts_alike = like acts (same_deed refl refl)
  back_alike takes (ifs_alike body other) = like takes (same_deed refl refl)
  back_alike takes (while_if body) = like enters (same_deed refl refl)
  back_alike takes (again_if other) = like leaves (same_deed refl refl)
  back_alike passes (ifs_alike body other) = like passes (same_deed refl refl)
  back_alike passes (while_if body) = like skips (same_deed refl refl)
  back_alike passes (again_if other) = like turns (same_deed refl refl)
  back_alike pauses awaits_alike = like pauses (same_deed refl refl)
  back_alike (runs {i} {at = place} {callee = callee} at there) runs_alike =
      like (runs (called i place at) (unit_there (same.bodies callee) there).is) (same_deed refl refl)
  back_alike repeats (repeats_alike body) = like repeats (same_deed refl refl)
  back_alike repeats_until (untils_alike body) = like repeats_until (same_deed refl refl)
  back_alike leaves (agains_alike body) = like leaves (same_deed refl refl)
  back_alike turns (agains_alike body) = like turns (same_deed refl refl)
  back_alike enters (whiles_alike body) = like enters (same_deed refl refl)
  back_alike skips (whiles_alike body) = like skips (same_deed refl refl)
  back_alike forks (cobegins_alike bodies) = like forks (same_deed refl refl)
  back_alike guards (whens_alike body) = like guards (same_deed refl refl)

  -- a statement that begins; a head that falls away can always step
  back_begun : {i : ℕ} {t : Plain} {d : Bool} {a : Deed} {n : StepLabel} {t' : Tree} {L : Line} {k' : Block} → Moves Unmet w' i (Do t) d a n t' →
      Lined H i L (At (Do t) k') → StepsBack w i (head_in L) d a
  back_begun move (both_begin (first_alike alike rest)) = back_alike move alike
  back_begun move (both_begin (first_repeat away turned)) = silently repeats refl
  back_begun move (both_begin (first_until away turned)) = silently repeats_until refl
  back_begun move (both_stand stands rest) = elim stands [ ]

  whole_back : {i : ℕ} {c : Tree} {d : Bool} {a : Deed} → is_chain c ≡ true → StepsBack w i (head_in (line c Done)) d a → StepsBack w i c d a
  whole_back {c = c} chain back =
      record { answer = _; deed = back.deed; label = _; after = _; moves = (whole_moves c chain back.moves).moves; does = back.does }

  guard_ends_back : {i : ℕ} {p : Watch} {stood d : Bool} {a : Deed} {c : Tree} → c ≡ Nil → i ≡ a.instance → Silent ≡ a.effect →
      StepsBack w i (Guard p Body stood c) d a
  guard_ends_back {i} {p} {stood} {d} {a} is instance effect =
      subst (λ c. StepsBack w i (Guard p Body stood c) d a) (sym is) (like guard_ends (same_deed instance effect))

  run_ends_back : {i : ℕ} {p : Call} {callee : ℕ} {stood d : Bool} {a : Deed} {c : Tree} → c ≡ Nil → i ≡ a.instance →
      Gives callee p.arguments.target ≡ a.effect → StepsBack w i (Run p callee Body stood c) d a
  run_ends_back {i} {p} {callee} {stood} {d} {a} is instance effect =
      subst (λ c. StepsBack w i (Run p callee Body stood c) d a) (sym is) (like run_ends (same_deed instance effect))

  back_nil : {i : ℕ} {c : Tree} → Related H i c Nil → c ≡ Nil
  back_nil {c = c} inner = nil_is c (related_answers inner).ended

  guard_back : {i : ℕ} {p : Watch} {stood d : Bool} {a : Deed} {c : Tree} → StepsBack w i c d a → StepsBack w i (Guard p Body stood c) d a
  guard_back back = record { answer = _; deed = back.deed; label = _; after = _; moves = in_guard back.moves; does = back.does }

  run_back : {i : ℕ} {p : Call} {callee : ℕ} {stood d : Bool} {a : Deed} {c : Tree} → StepsBack w callee c d a → StepsBack w i (Run p callee Body stood c) d a
  run_back back = record { answer = _; deed = back.deed; label = _; after = _; moves = in_run back.moves; does = back.does }

  fork_back : {i : ℕ} {p : Fork} {stood d : Bool} {a : Deed} {branches : Trees} → EachStepsBack w i branches a → StepsBack w i (Par p stood branches) d a
  fork_back back = record { answer = _; deed = back.does_deed; label = _; after = _; moves = in_par back.moves; does = back.does }

  any_free : {i : ℕ} {others others' : Trees} {a b : Deed} → RelatedEach H i others others' → b.effect ≡ Silent ⊎ SameDeed b a →
      any_meets w' i others' a ≡ false → any_meets w i others b ≡ false
  any_free {i} {others} {b = b} rest (inl silent) free = any_silent_meets w i others b silent
  any_free {i} rest (inr deed) free = any_meets_same same i (each_answers rest) deed ∙ free

  one_free : {i : ℕ} {c t : Tree} {a b : Deed} → Related H i c t → b.effect ≡ Silent ⊎ SameDeed b a → meets w' i t a ≡ false → meets w i c b ≡ false
  one_free {i} {c} {b = b} inner (inl silent) free = silent_meets w i c b silent
  one_free {i} inner (inr deed) free = meets_same same i (related_answers inner) deed ∙ free

  first_back : {i : ℕ} {weak d : Bool} {c : Tree} {others others' : Trees} {a : Deed} → StepsBack w i c d a → any_meets w' i others' a ≡ false →
      RelatedEach H i others others' → EachStepsBack w i (beside weak c others) a
  first_back back free rest =
      record { answer = _; does_deed = back.deed; label = _; after = _; moves = first back.moves (any_free rest back.does free); does = back.does }

  later_back : {i : ℕ} {weak : Bool} {c t : Tree} {others : Trees} {a : Deed} → EachStepsBack w i others a → meets w' i t a ≡ false → Related H i c t →
      EachStepsBack w i (beside weak c others) a
  later_back back free inner =
      record { answer = _; does_deed = back.does_deed; label = _; after = _; moves = later back.moves (one_free inner back.does free); does = back.does }

  mutual
    pub back_at : {i : ℕ} {t : Tree} {d : Bool} {a : Deed} {n : StepLabel} {t' : Tree} → Moves Unmet w' i t d a n t' → (k' : Block) → {L : Line} →
        Lined H i L (line t k') → StepsBack w i (head_in L) d a
    back_at acts k' lined = back_begun acts lined
    back_at takes k' lined = back_begun takes lined
    back_at passes k' lined = back_begun passes lined
    back_at pauses k' lined = back_begun pauses lined
    back_at (runs at there) k' lined = back_begun (runs at there) lined
    back_at repeats k' lined = back_begun repeats lined
    back_at repeats_until k' lined = back_begun repeats_until lined
    back_at leaves k' lined = back_begun leaves lined
    back_at turns k' lined = back_begun turns lined
    back_at enters k' lined = back_begun enters lined
    back_at skips k' lined = back_begun skips lined
    back_at forks k' lined = back_begun forks lined
    back_at guards k' lined = back_begun guards lined
    back_at goes_on k' (both_stand (both_test is) rest) = like goes_on (same_deed refl (ap Asks is))
    back_at waits k' (both_stand (both_test is) rest) = like waits (same_deed refl (ap Asks is))
    back_at lets k' (both_stand (both_guard kind is body inner) rest) = like lets (same_deed refl (ap Asks is))
    back_at (aborts guard) k' (both_stand (both_guard kind is body inner) rest) = like (aborts (kind ∙ guard)) (same_deed refl (ap Asks is))
    back_at (resets guard) k' (both_stand (both_guard kind is body inner) rest) = like (resets (kind ∙ guard)) (same_deed refl (ap Asks is))
    back_at guard_ends k' (both_stand (both_guard kind is body inner) rest) = guard_ends_back (back_nil inner) refl refl
    back_at (copies {callee = callee}) k' (both_stand (both_run is inner) rest) = like copies (same_deed refl (ap (λ x. Copies callee x.inputs) is))
    back_at (run_ends {callee = callee}) k' (both_stand (both_run is inner) rest) =
        run_ends_back (back_nil inner) refl (ap (λ x. Gives callee x.target) is)
    back_at (joins still done) k' (both_stand (both_fork each) rest) =
        like (joins ((each_answers each).settled ∙ still) (same_done (each_answers each) ∙ done)) (same_deed refl refl)
    back_at (in_seq {rest} move) k' lined = back_at move (before rest k') lined
    back_at (in_par move) k' (both_stand (both_fork each) rest) = fork_back (back_each move each)
    back_at (in_guard move) k' (both_stand (both_guard kind is body (related chain chain' lined)) rest) =
        guard_back (whole_back chain (back_at move Done lined))
    back_at (in_run move) k' (both_stand (both_run is (related chain chain' lined)) rest) = run_back (whole_back chain (back_at move Done lined))

    back_each : {i : ℕ} {others : Trees} {d : Bool} {a : Deed} {n : StepLabel} {others' branches : Trees} → OneMoves Unmet w' i others d a n others' →
        RelatedEach H i branches others → EachStepsBack w i branches a
    back_each (first move free) (one_branch (related chain chain' lined) rest) = first_back (whole_back chain (back_at move Done lined)) free rest
    back_each (later move free) (one_branch inner rest) = later_back (back_each move rest) free inner

pub still_steps : {H : ℕ → Node → Plain → Type 0} {w w' : Setting} {i : ℕ} {c t : Tree} {d : Bool} {a : Deed} {n : StepLabel} {t' : Tree} →
    SameProgram H w w' → Related H i c t → Moves Unmet w' i t d a n t' → StepsBack w i c d a
still_steps same (related chain chain' lined) move = whole_back same chain (back_at same move Done lined)

pub still_is_related : StillIsRelated
still_is_related w w' i c t d a n t' same inner move = still_steps same inner move
