-- Deeds of what is left of a body are those of its statements, or lie in its calls.
use Rattle.std.proofs.Common.{◌≡◌, ◌⊎◌, inl, inr, ℕ, Bool, Some, refl, sym, subst}
use Rattle.bl_tree.specs.declared.place.Place.{Place}
use Rattle.bl_graph_nodes.specs.Plain.{Block, Bodies, Plain, Done, Then}
use Rattle.bl_graph_nodes.specs.Steps.{StepLabel}
use Rattle.bl_ctree.specs.Instances.{Setting, callee_of}
use Rattle.bl_ctree_laws.specs.Residual.{BlockSplitsAt, PlainResidual, PlainResidualEach, PlainResidualOf, ended, here, none_left, nothing, of_again, of_else}
use Rattle.bl_ctree_laws.specs.Residual.{of_guard, of_last, of_one, of_par, of_repeat, of_run, of_then, of_until, of_while, one_left, paused, tested, there}
use Rattle.bl_ctree_laws.specs.Residual.{to_begin}
use Rattle.bl_ctree_laws.specs.Pending.{Deed}
use Rattle.bl_ctree_laws.specs.Steps.{Anyway, Moves, OneMoves, acts, takes, passes, pauses, runs, repeats, repeats_until, leaves, turns, enters, skips, forks}
use Rattle.bl_ctree_laws.specs.Steps.{guards, goes_on, waits, lets, aborts, resets, guard_ends, copies, run_ends, joins, in_seq, in_par, in_guard, in_run}
use Rattle.bl_ctree_laws.specs.Steps.{first, later}
use Rattle.bl_ctree_laws.specs.Trees.{Tree, Trees, Do, before}
use Rattle.bl_ctree_laws_confluence.specs.Deeds.Nesting.{Inside, deeper, itself}
use Rattle.bl_ctree_laws_confluence.specs.Apart.Owned.{DeedsAreOfBodies, HasEffect, IsInsideCall, Own, RunsAt, SomeIn, SomeInEach, SomeOf}
use Rattle.bl_ctree_laws_confluence.proofs.OnApart.Calls.{inside_both}

-- the deed is that of a statement of a part of a body, or lies in a call by one; In P says that P holds of a statement there
data Found (w : Setting) (i : ℕ) (In : (Plain → Type 0) → Type 0) (a : Deed) : Type 0 where
  by_own : a.instance ≡ i → In (HasEffect w i a.effect) → Found w i In a
  by_call : (place : Place) (callee : ℕ) → In (RunsAt place) → callee_of w i place ≡ Some callee → Inside w callee a.instance → Found w i In a

found : {w : Setting} {i : ℕ} {a : Deed} (In Out : (Plain → Type 0) → Type 0) → ((P : Plain → Type 0) → In P → Out P) →
    Found w i In a → Found w i Out a
found In Out more (by_own is does) = by_own is (more _ does)
found In Out more (by_call place callee stands begins inside) = by_call place callee (more _ stands) begins inside

found_inside : {w : Setting} {i : ℕ} {a : Deed} {In : (Plain → Type 0) → Type 0} → Found w i In a → Inside w i a.instance
found_inside {w} {i} (by_own is does) = subst (Inside w i) (sym is) itself
found_inside {w} {i} (by_call place callee stands begins inside) = inside_both (deeper i place itself begins) inside

pub stands_in : (P : Plain → Type 0) {s : Plain} {rest body : Block} → BlockSplitsAt s rest body → SomeOf P s → SomeIn P body
stands_in P here some = inl some
stands_in P (there stands) some = inr (stands_in P stands some)

-- what ends a turn is of the loop, as the body is
turned : (P : Plain → Type 0) (body : Block) (next : Plain) → SomeIn P (before body (Then next Done)) → SomeIn P body ⊎ SomeOf P next
turned P Done next (inl some) = inr some
turned P Done next (inr none) = absurd none
turned P (Then s body) next (inl some) = inl (inl some)
turned P (Then s body) next (inr others) = more (turned P body next others)
  where
    more : SomeIn P body ⊎ SomeOf P next → (SomeOf P s ⊎ SomeIn P body) ⊎ SomeOf P next
    more (inl some) = inl (inr some)
    more (inr some) = inr some

pub looped : (P : Plain → Type 0) (body : Block) (next : Plain) (Own : Type 0) → (SomeOf P next → Own ⊎ SomeIn P body) →
    SomeIn P (before body (Then next Done)) → Own ⊎ SomeIn P body
looped P body next Own loop some = by_turn (turned P body next some)
  where
    by_turn : SomeIn P body ⊎ SomeOf P next → Own ⊎ SomeIn P body
    by_turn (inl inner) = inr inner
    by_turn (inr again) = loop again

begins_so : {w : Setting} {i : ℕ} {s : Plain} {d : Bool} {a : Deed} {n : StepLabel} {c' : Tree} → Moves Anyway w i (Do s) d a n c' →
    Found w i (λ P. SomeOf P s) a
begins_so acts = by_own refl refl
begins_so takes = by_own refl (inl refl)
begins_so passes = by_own refl (inl refl)
begins_so pauses = by_own refl (inl refl)
begins_so (runs {callee = callee} begins is) = by_own refl (callee, (begins, inl refl))
begins_so repeats = by_own refl (inl refl)
begins_so repeats_until = by_own refl (inl (inl refl))
begins_so leaves = by_own refl (inl (inr refl))
begins_so turns = by_own refl (inl (inr refl))
begins_so enters = by_own refl (inl refl)
begins_so skips = by_own refl (inl refl)
begins_so forks = by_own refl (inl refl)
begins_so guards = by_own refl (inl (inl refl))

mutual
  owned : {w : Setting} {stood : Bool} {i : ℕ} {body : Block} {c : Tree} {d : Bool} {a : Deed} {n : StepLabel} {c' : Tree} →
      PlainResidual w stood i body c → Moves Anyway w i c d a n c' → Found w i (λ P. SomeIn P body) a
  owned nothing move = elim move [ ]
  owned {body = body} (of_last {s = s} stands of) move =
      found (λ P. SomeOf P s) (λ P. SomeIn P body) (λ P some. stands_in P stands some) (owned_of of move)
  owned {body = body} (of_one {s = s} stands of busy) (in_seq move) =
      found (λ P. SomeOf P s) (λ P. SomeIn P body) (λ P some. stands_in P stands some) (owned_of of move)

  owned_of : {w : Setting} {stood : Bool} {i : ℕ} {s : Plain} {c : Tree} {d : Bool} {a : Deed} {n : StepLabel} {c' : Tree} →
      PlainResidualOf w stood i s c → Moves Anyway w i c d a n c' → Found w i (λ P. SomeOf P s) a
  owned_of to_begin move = begins_so move
  owned_of ended move = elim move [ ]
  owned_of paused move = elim move [ ]
  owned_of tested goes_on = by_own refl (inr refl)
  owned_of tested waits = by_own refl (inr refl)
  owned_of {s = s} (of_then {body = body} left) move =
      found (λ P. SomeIn P body) (λ P. SomeOf P s) (λ P some. inr (inl some)) (owned left move)
  owned_of {s = s} (of_else {other = other} left) move =
      found (λ P. SomeIn P other) (λ P. SomeOf P s) (λ P some. inr (inr some)) (owned left move)
  owned_of {s = s} (of_repeat {body = body} left) move =
      found (λ P. SomeIn P _) (λ P. SomeOf P s) (λ P some. looped P body _ _ (λ again. again) some) (owned left move)
  owned_of {s = s} (of_until {body = body} left) move =
      found (λ P. SomeIn P _) (λ P. SomeOf P s) (λ P some. looped P body _ _ (λ again. again) some) (owned left move)
  owned_of {s = s} (of_while {body = body} left) move =
      found (λ P. SomeIn P _) (λ P. SomeOf P s) (λ P some. looped P body _ _ (λ again. again) some) (owned left move)
  owned_of (of_again of) move = owned_of of move
  owned_of (of_par kept each) (joins settled done) = by_own refl (inl refl)
  owned_of {s = s} (of_par {bodies = bodies} kept each) (in_par move) =
      found (λ P. SomeInEach P bodies) (λ P. SomeOf P s) (λ P some. inr some) (owned_in each move)
  owned_of (of_guard kept checked left) lets = by_own refl (inl (inr refl))
  owned_of (of_guard kept checked left) (aborts is) = by_own refl (inl (inr refl))
  owned_of (of_guard kept checked left) (resets is) = by_own refl (inl (inr refl))
  owned_of (of_guard kept checked left) guard_ends = by_own refl (inl (inl refl))
  owned_of {s = s} (of_guard {body = body} kept checked left) (in_guard move) =
      found (λ P. SomeIn P body) (λ P. SomeOf P s) (λ P some. inr some) (owned left move)
  owned_of (of_run {callee = callee} begins is kept checked left) copies = by_own refl (callee, (begins, inl refl))
  owned_of (of_run {callee = callee} begins is kept checked left) run_ends = by_own refl (callee, (begins, inr refl))
  owned_of (of_run {at = at} {callee = callee} begins is kept checked left) (in_run move) =
      by_call at callee refl begins (found_inside (owned left move))

  owned_in : {w : Setting} {stood : Bool} {i : ℕ} {bodies : Bodies} {branches : Trees} {d : Bool} {a : Deed} {n : StepLabel} {branches' : Trees} →
      PlainResidualEach w stood i bodies branches → OneMoves Anyway w i branches d a n branches' → Found w i (λ P. SomeInEach P bodies) a
  owned_in none_left move = elim move [ ]
  owned_in {bodies = bodies} (one_left {body = body} left each) (first move free) =
      found (λ P. SomeIn P body) (λ P. SomeInEach P bodies) (λ P some. inl some) (owned left move)
  owned_in {bodies = bodies} (one_left {bodies = rest} left each) (later move free) =
      found (λ P. SomeInEach P rest) (λ P. SomeInEach P bodies) (λ P some. inr some) (owned_in each move)

pub deeds_are_of_bodies_so : DeedsAreOfBodies
deeds_are_of_bodies_so w stood i body c d a n c' left move = by_found (owned left move)
  where
    by_found : Found w i (λ P. SomeIn P body) a → Own w i body a ⊎ IsInsideCall w i body a.instance
    by_found (by_own is does) = inl (record { instance = is; does = does })
    by_found (by_call place callee stands begins inside) =
        inr (record { place = place; stands = stands; callee = callee; begins = begins; inside = inside })
