-- The numbers in the rules of a part fit where those of its resting places do.
use Rattle.std.proofs.Common.{◌≡◌, ℕ, suc, ◌+◌, ◌≤◌, ◌^◌, Bool, true, false, ◌&&◌, List, [], ◌∷◌, ◌++◌}
use Rattle.std.proofs.Common.{map, length, refl, sym, ◌∙◌, subst, arith, length-append}
use Rattle.std.proofs.lemmas.Bool.{eqb-true}
use Rattle.std.proofs.lemmas.Bool.Decides.{nat_tests}
use Rattle.std.proofs.lemmas.List.Folds.{list_all-append}
use Rattle.std.specs.List.{list_all, list_any}
use Rattle.std.specs.Prelude.{if◌then◌else◌, nat_eq, nat_le, nat_lt}
use Rattle.std.proofs.lemmas.Bool.{and_from}
use Rattle.bl_tree.proofs.Basics.{all_append, and_first, and_second, at_most_test, number_test}
use Rattle.bl_tree.specs.declared.place.Place.{Place}
use Rattle.bl_tree.specs.declared.tree.Expr.{Expr}
use Rattle.bl_tree.specs.declared.tree.Guard.{Guard}
use Rattle.bl_tree.specs.declared.tree.Guard.TheVariants.{Abort, Reset}
use Rattle.bl_graph_nodes.specs.Nodes.{CheckAt, DepthEndAt, DepthJoinAt, EnterAt, ForkAt, HeadAt, Node, PauseAt, ResumeAt, StartAt}
use Rattle.bl_graph_nodes.specs.Nodes.{SurfaceEndAt, SurfaceJoinAt, TestAt, are_instant, arguments_of, is_instant, some_strong, ActAt}
use Rattle.bl_graph_nodes.specs.Plain.{Act, Again, Await, Block, Bodies, Body as BodyOf, Cobegin, Done, If, Label, Last, Plain}
use Rattle.bl_graph_nodes.specs.Plain.{Repeat, Run as RunOf, Then, Until, When, While}
use Rattle.bl_machine.specs.declared.slots.Slot.{Slot}
use Rattle.bl_machine.specs.Uses.{Slots}
use Rattle.bl_machine_pass.specs.SlotLayout.{BlockRestsAt, BranchesRestAt, EndOf, Spot, StatementRestsAt, slot_at, spots_in, spots_in_each, spots_of}
use Rattle.bl_machine_pass.specs.Transitions.{Age, Change, ClearsBoth, ClearsCounter, Ended, EndsWhen, IsNew, SetsCounter, SetsFlag}
use Rattle.bl_machine_pass.specs.Transitions.{Transition, age_of}
use Rattle.bl_machine_pass.specs.Transitions.{body_ends, counters_in, counters_in_each, counters_of, endings, enter, enter_each, fires, flagged}
use Rattle.bl_machine_pass.specs.Transitions.{joins, marked, needed, once, once_but, rests_in, rests_in_first, rests_of, rule_where, rules_in}
use Rattle.bl_machine_pass.specs.Transitions.{Flagged, Rested, RestedIn, rules_in_each, rules_of, strong_endings}
use Rattle.bl_emit_spec.specs.Blocks.{Sizes}
use Rattle.bl_emit_spec_laws_wellformed.specs.Spelled.{change_fits, condition_fits, rule_fits, slot_fits, slots_fit}

-- ---- tests of lists

all_left : {X : Type 0} (test : X → Bool) (xs ys : List X) → list_all test (xs ++ ys) ≡ true → list_all test xs ≡ true
all_left test xs ys h = and_first (list_all test xs) (list_all test ys) (sym (list_all-append test xs ys) ∙ h)

all_right : {X : Type 0} (test : X → Bool) (xs ys : List X) → list_all test (xs ++ ys) ≡ true → list_all test ys ≡ true
all_right test xs ys h = and_second (list_all test xs) (list_all test ys) (sym (list_all-append test xs ys) ∙ h)

all_first : {X : Type 0} (test : X → Bool) (x : X) (xs : List X) → list_all test (x ∷ xs) ≡ true → test x ≡ true
all_first test x xs h = and_first (test x) (list_all test xs) h

all_later : {X : Type 0} (test : X → Bool) (x : X) (xs : List X) → list_all test (x ∷ xs) ≡ true → list_all test xs ≡ true
all_later test x xs h = and_second (test x) (list_all test xs) h

all_with : {X : Type 0} (test : X → Bool) (x : X) (xs : List X) → test x ≡ true → list_all test xs ≡ true →
    list_all test (x ∷ xs) ≡ true
all_with test x xs one other = and_from (test x) (list_all test xs) one other

-- ---- resting places that fit

-- whether 64 bits hold a counter
abbrev low : ℕ → Bool
low k = nat_lt k (2 ^ 64)

-- the test is true of these resting places, and 64 bits count them
pub record Good (test : Spot → Bool) (spots : List Spot) : Type 0 where
  pub fit : list_all test spots ≡ true
  pub few : length spots ≤ 2 ^ 64

less_of : (n m k : ℕ) → n + m ≤ k → n ≤ k
less_of n m k h = omega (arith, h)

more_of : (n m k : ℕ) → n + m ≤ k → m ≤ k
more_of n m k h = omega (arith, h)

after_one : (n k : ℕ) → suc n ≤ k → n ≤ k
after_one n k h = omega (arith, h)

good_left : (test : Spot → Bool) (xs ys : List Spot) → Good test (xs ++ ys) → Good test xs
good_left test xs ys good = record {
  fit = all_left test xs ys good.fit;
  few = less_of (length xs) (length ys) (2 ^ 64) (subst (λ n. n ≤ 2 ^ 64) (length-append xs ys) good.few);
}

good_right : (test : Spot → Bool) (xs ys : List Spot) → Good test (xs ++ ys) → Good test ys
good_right test xs ys good = record {
  fit = all_right test xs ys good.fit;
  few = more_of (length xs) (length ys) (2 ^ 64) (subst (λ n. n ≤ 2 ^ 64) (length-append xs ys) good.few);
}

good_later : (test : Spot → Bool) (p : Spot) (spots : List Spot) → Good test (p ∷ spots) → Good test spots
good_later test p spots good = record {
  fit = all_later test p spots good.fit;
  few = after_one (length spots) (2 ^ 64) good.few;
}

-- ---- numbers, each once

once_low : (seen counters : List ℕ) → list_all low counters ≡ true → list_all low (once_but seen counters) ≡ true
once_low seen [] h = refl
once_low seen (k ∷ rest) h =
    by (list_any (nat_eq k) seen) (once_low seen rest (all_later low k rest h)) (once_low (k ∷ seen) rest (all_later low k rest h))
  where
    by : (b : Bool) → list_all low (once_but seen rest) ≡ true → list_all low (once_but (k ∷ seen) rest) ≡ true →
        list_all low (if b then once_but seen rest else k ∷ once_but (k ∷ seen) rest) ≡ true
    by true one other = one
    by false one other = all_with low k (once_but (k ∷ seen) rest) (all_first low k rest h) other

module _ (slots : Slots) (sizes : Sizes) where
  -- whether the number of a resting place fits
  abbrev ok : Spot → Bool
  ok p = slot_fits sizes (slot_at slots p)

  counter_low : (slot : Slot) → slot_fits sizes slot ≡ true → low slot.counter ≡ true
  counter_low slot h = and_first (low slot.counter) _ h

  frees_fit : (counters : List ℕ) → list_all low counters ≡ true → list_all (change_fits sizes) (map ClearsCounter counters) ≡ true
  frees_fit [] h = refl
  frees_fit (k ∷ counters) h =
      and_from (low k) (list_all (change_fits sizes) (map ClearsCounter counters)) (all_first low k counters h)
      (frees_fit counters (all_later low k counters h))

  forgets_fit : (counters : List ℕ) → list_all low counters ≡ true → list_all (change_fits sizes) (map ClearsBoth counters) ≡ true
  forgets_fit [] h = refl
  forgets_fit (k ∷ counters) h =
      and_from (low k) (list_all (change_fits sizes) (map ClearsBoth counters)) (all_first low k counters h)
      (forgets_fit counters (all_later low k counters h))

  -- ---- where a part rests

  mutual
    rests_fit : (s : Plain) → list_all ok (spots_of s) ≡ true → list_all (slot_fits sizes) (rests_of slots s) ≡ true
    rests_fit (Act l s) h = refl
    rests_fit (Await l at e) h = h
    rests_fit (RunOf l at target a inputs outputs) h = h
    rests_fit (If l at e body other) h =
        all_append (slot_fits sizes) (rests_in slots body) (rests_in slots other)
        (rests_in_fit body (all_left ok (spots_in body) (spots_in other) h))
        (rests_in_fit other (all_right ok (spots_in body) (spots_in other) h))
    rests_fit (Cobegin l at bodies) h = rests_first_fit l bodies h
    rests_fit (When l at guard e body) h = rests_in_fit body h
    rests_fit (Repeat l at body) h = rests_in_fit body h
    rests_fit (Until l at body e) h = rests_in_fit body h
    rests_fit (While l at e body) h = rests_in_fit body h
    rests_fit (Again l at body e) h = rests_in_fit body h

    rests_in_fit : (body : Block) → list_all ok (spots_in body) ≡ true → list_all (slot_fits sizes) (rests_in slots body) ≡ true
    rests_in_fit Done h = refl
    rests_in_fit (Then s rest) h =
        all_append (slot_fits sizes) (rests_of slots s) (rests_in slots rest)
        (rests_fit s (all_left ok (spots_of s) (spots_in rest) h))
        (rests_in_fit rest (all_right ok (spots_of s) (spots_in rest) h))

    rests_first_fit : (l : Label) (bodies : Bodies) → list_all ok (spots_in_each l 0 bodies) ≡ true →
        list_all (slot_fits sizes) (rests_in_first slots l bodies) ≡ true
    rests_first_fit l Last h = refl
    rests_first_fit l (BodyOf weak body rest) h =
        and_from (ok (EndOf l 0)) (list_all (slot_fits sizes) (rests_in slots body))
        (all_first ok (EndOf l 0) (spots_in body ++ spots_in_each l 1 rest) h)
        (rests_in_fit body
        (all_left ok (spots_in body) (spots_in_each l 1 rest) (all_later ok (EndOf l 0) (spots_in body ++ spots_in_each l 1 rest) h)))

  -- whether a number is of the counter
  abbrev is_of : ℕ → Slot → Bool
  is_of k other = nat_eq other.counter k

  mutual
    rests_one : (k : ℕ) (s : Plain) → StatementRestsAt slots k s → list_all (is_of k) (rests_of slots s) ≡ true
    rests_one k (Act l s) laid = refl
    rests_one k (Await l at e) laid = and_from (is_of k (slots.rest l)) true (number_test (slots.rest l).counter k laid) refl
    rests_one k (RunOf l at target a inputs outputs) laid =
        and_from (is_of k (slots.rest l)) true (number_test (slots.rest l).counter k laid) refl
    rests_one k (If l at e body other) laid =
        all_append (is_of k) (rests_in slots body) (rests_in slots other) (rests_in_one k body laid.0) (rests_in_one k other laid.1)
    rests_one k (Cobegin l at Last) laid = refl
    rests_one k (Cobegin l at (BodyOf weak body rest)) laid =
        and_from (is_of k (slots.ending l 0)) (list_all (is_of k) (rests_in slots body)) (number_test (slots.ending l 0).counter k laid.0)
        (rests_in_one k body (subst (λ c. BlockRestsAt slots c body) laid.0 laid.1.0))
    rests_one k (When l at guard e body) laid = rests_in_one k body laid
    rests_one k (Repeat l at body) laid = rests_in_one k body laid
    rests_one k (Until l at body e) laid = rests_in_one k body laid
    rests_one k (While l at e body) laid = rests_in_one k body laid
    rests_one k (Again l at body e) laid = rests_in_one k body laid

    rests_in_one : (k : ℕ) (body : Block) → BlockRestsAt slots k body → list_all (is_of k) (rests_in slots body) ≡ true
    rests_in_one k Done laid = refl
    rests_in_one k (Then s rest) laid =
        all_append (is_of k) (rests_of slots s) (rests_in slots rest) (rests_one k s laid.0) (rests_in_one k rest laid.1)

  one_fits : (k : ℕ) (xs : List Slot) → list_all (slot_fits sizes) xs ≡ true → list_all (is_of k) xs ≡ true → slots_fit sizes xs ≡ true
  one_fits k [] fit one = refl
  one_fits k (x ∷ rest) fit one =
      and_from (list_all (slot_fits sizes) (x ∷ rest)) (list_all (λ (other : Slot). nat_eq other.counter x.counter) rest) fit
      (subst (λ c. list_all (λ (other : Slot). nat_eq other.counter c) rest ≡ true)
      (sym (eqb-true x.counter k (all_first (is_of k) x rest one))) (all_later (is_of k) x rest one))

  -- ---- counters

  mutual
    counters_low : (s : Plain) → list_all ok (spots_of s) ≡ true → list_all low (counters_of slots s) ≡ true
    counters_low (Act l s) h = refl
    counters_low (Await l at e) h =
        and_from (low (slots.rest l).counter) true (counter_low (slots.rest l) (and_first (slot_fits sizes (slots.rest l)) true h)) refl
    counters_low (RunOf l at target a inputs outputs) h =
        and_from (low (slots.rest l).counter) true (counter_low (slots.rest l) (and_first (slot_fits sizes (slots.rest l)) true h)) refl
    counters_low (If l at e body other) h =
        all_append low (counters_in slots body) (counters_in slots other)
        (counters_in_low body (all_left ok (spots_in body) (spots_in other) h))
        (counters_in_low other (all_right ok (spots_in body) (spots_in other) h))
    counters_low (Cobegin l at bodies) h = counters_each_low l 0 bodies h
    counters_low (When l at guard e body) h = counters_in_low body h
    counters_low (Repeat l at body) h = counters_in_low body h
    counters_low (Until l at body e) h = counters_in_low body h
    counters_low (While l at e body) h = counters_in_low body h
    counters_low (Again l at body e) h = counters_in_low body h

    counters_in_low : (body : Block) → list_all ok (spots_in body) ≡ true → list_all low (counters_in slots body) ≡ true
    counters_in_low Done h = refl
    counters_in_low (Then s rest) h =
        all_append low (counters_of slots s) (counters_in slots rest)
        (counters_low s (all_left ok (spots_of s) (spots_in rest) h))
        (counters_in_low rest (all_right ok (spots_of s) (spots_in rest) h))

    counters_each_low : (l : Label) (k : ℕ) (bodies : Bodies) → list_all ok (spots_in_each l k bodies) ≡ true →
        list_all low (counters_in_each slots l k bodies) ≡ true
    counters_each_low l k Last h = refl
    counters_each_low l k (BodyOf weak body rest) h =
        let later = all_later ok (EndOf l k) (spots_in body ++ spots_in_each l (suc k) rest) h in
        and_from (low (slots.ending l k).counter) (list_all low (counters_in slots body ++ counters_in_each slots l (suc k) rest))
        (counter_low (slots.ending l k) (all_first ok (EndOf l k) (spots_in body ++ spots_in_each l (suc k) rest) h))
        (all_append low (counters_in slots body) (counters_in_each slots l (suc k) rest)
        (counters_in_low body (all_left ok (spots_in body) (spots_in_each l (suc k) rest) later))
        (counters_each_low l (suc k) rest (all_right ok (spots_in body) (spots_in_each l (suc k) rest) later)))

  -- ---- ends of branches

  -- these fit, and are no more than the resting places
  record EndsFit (ends : List Slot) (spots : List Spot) : Type 0 where
    fit : list_all (slot_fits sizes) ends ≡ true
    few : length ends ≤ length spots

  -- past what stands in a branch
  past_branch : (n m k : ℕ) → n ≤ k → n ≤ suc (m + k)
  past_branch n m k h = omega (arith, h)

  with_branch : (n m k : ℕ) → n ≤ k → suc n ≤ suc (m + k)
  with_branch n m k h = omega (arith, h)

  more_ends : (p : Spot) (inner spots : List Spot) (n : ℕ) → n ≤ suc (length inner + length spots) → n ≤ length (p ∷ (inner ++ spots))
  more_ends p inner spots n h = subst (λ k. n ≤ suc k) (sym (length-append inner spots)) h

  endings_fit : (l : Label) (k : ℕ) (bodies : Bodies) → list_all ok (spots_in_each l k bodies) ≡ true →
      EndsFit (endings slots l k bodies) (spots_in_each l k bodies)
  endings_fit l k Last h = record { fit = refl; few = omega arith }
  endings_fit l k (BodyOf weak body rest) h =
      let later = all_later ok (EndOf l k) (spots_in body ++ spots_in_each l (suc k) rest) h in
      let more = endings_fit l (suc k) rest (all_right ok (spots_in body) (spots_in_each l (suc k) rest) later) in
      record {
        fit = and_from (ok (EndOf l k)) (list_all (slot_fits sizes) (endings slots l (suc k) rest))
            (all_first ok (EndOf l k) (spots_in body ++ spots_in_each l (suc k) rest) h) more.fit;
        few = more_ends (EndOf l k) (spots_in body) (spots_in_each l (suc k) rest) (suc (length (endings slots l (suc k) rest)))
            (with_branch (length (endings slots l (suc k) rest)) (length (spots_in body)) (length (spots_in_each l (suc k) rest)) more.few);
      }

  strong_fit : (l : Label) (k : ℕ) (bodies : Bodies) → list_all ok (spots_in_each l k bodies) ≡ true →
      EndsFit (strong_endings slots l k bodies) (spots_in_each l k bodies)
  strong_fit l k Last h = record { fit = refl; few = omega arith }
  strong_fit l k (BodyOf weak body rest) h =
      let later = all_later ok (EndOf l k) (spots_in body ++ spots_in_each l (suc k) rest) h in
      by weak (strong_fit l (suc k) rest (all_right ok (spots_in body) (spots_in_each l (suc k) rest) later))
    where
      by : (b : Bool) → EndsFit (strong_endings slots l (suc k) rest) (spots_in_each l (suc k) rest) →
          EndsFit (if b then strong_endings slots l (suc k) rest else slots.ending l k ∷ strong_endings slots l (suc k) rest)
          (EndOf l k ∷ (spots_in body ++ spots_in_each l (suc k) rest))
      by true more = record {
        fit = more.fit;
        few = more_ends (EndOf l k) (spots_in body) (spots_in_each l (suc k) rest) (length (strong_endings slots l (suc k) rest))
            (past_branch (length (strong_endings slots l (suc k) rest)) (length (spots_in body)) (length (spots_in_each l (suc k) rest))
            more.few);
      }
      by false more = record {
        fit = and_from (ok (EndOf l k)) (list_all (slot_fits sizes) (strong_endings slots l (suc k) rest))
            (all_first ok (EndOf l k) (spots_in body ++ spots_in_each l (suc k) rest) h) more.fit;
        few = more_ends (EndOf l k) (spots_in body) (spots_in_each l (suc k) rest) (suc (length (strong_endings slots l (suc k) rest)))
            (with_branch (length (strong_endings slots l (suc k) rest)) (length (spots_in body)) (length (spots_in_each l (suc k) rest))
            more.few);
      }

  ended_fits : (age : Age) (all : Bool) (ends : List Slot) (spots : List Spot) → EndsFit ends spots → length spots ≤ 2 ^ 64 →
      condition_fits sizes (Ended age (record { all = all; slots = ends })) ≡ true
  ended_fits age all ends spots fit few =
      and_from (list_all (slot_fits sizes) ends) (nat_le (length ends) (2 ^ 64)) fit.fit
      (at_most_test (length ends) (2 ^ 64) (at_most (length ends) (length spots) (2 ^ 64) fit.few few))
    where
      at_most : (n m k : ℕ) → n ≤ m → m ≤ k → n ≤ k
      at_most n m k one other = omega (arith, one, other)

  needed_fits : (age : Age) (l : Label) (bodies : Bodies) → Good ok (spots_in_each l 0 bodies) →
      condition_fits sizes (Ended age (needed slots l bodies)) ≡ true
  needed_fits age l bodies good = by (some_strong bodies)
    where
      by : (b : Bool) →
          condition_fits sizes (Ended age (if b
          then record { all = true; slots = strong_endings slots l 0 bodies }
          else record { all = false; slots = endings slots l 0 bodies }))
          ≡ true
      by true = ended_fits age true (strong_endings slots l 0 bodies) (spots_in_each l 0 bodies) (strong_fit l 0 bodies good.fit) good.few
      by false = ended_fits age false (endings slots l 0 bodies) (spots_in_each l 0 bodies) (endings_fit l 0 bodies good.fit) good.few

  -- ---- changes

  enter_fits : (body : Block) (next : Change) → change_fits sizes next ≡ true → change_fits sizes (enter body next) ≡ true
  enter_fits Done next h = h
  enter_fits (Then s rest) next h = refl

  enter_each_fits : (l : Label) (k : ℕ) (bodies : Bodies) → list_all ok (spots_in_each l k bodies) ≡ true →
      list_all (change_fits sizes) (enter_each slots l k bodies) ≡ true
  enter_each_fits l k Last h = refl
  enter_each_fits l k (BodyOf weak body rest) h =
      all_with (change_fits sizes) (enter body (SetsCounter (slots.ending l k))) (enter_each slots l (suc k) rest)
      (enter_fits body (SetsCounter (slots.ending l k)) (all_first ok (EndOf l k) (spots_in body ++ spots_in_each l (suc k) rest) h))
      (enter_each_fits l (suc k) rest
      (all_right ok (spots_in body) (spots_in_each l (suc k) rest)
      (all_later ok (EndOf l k) (spots_in body ++ spots_in_each l (suc k) rest) h)))

  ends_fit : (l : Label) (at : Place) (body : Block) → change_fits sizes (body_ends l at body) ≡ true
  ends_fit l at body = by (are_instant body)
    where
      by : (b : Bool) →
          change_fits sizes (if b then EndsWhen (StartAt l at) (SurfaceEndAt l at) (DepthEndAt l at) else SetsFlag (DepthEndAt l at)) ≡ true
      by true = refl
      by false = refl

  marked_fits : (b : Bool) (n : Node) (rest : List Change) → list_all (change_fits sizes) rest ≡ true →
      list_all (change_fits sizes) (marked b n rest) ≡ true
  marked_fits true n rest h = h
  marked_fits false n rest h = h

  fires_fits : (guard : Guard) (l : Label) (at : Place) (body : Block) (next : Change) → change_fits sizes next ≡ true →
      change_fits sizes (fires guard l at body next) ≡ true
  fires_fits Abort l at body next h = h
  fires_fits Reset l at body next h = enter_fits body (body_ends l at body) (ends_fit l at body)

  -- ---- rules

  made : (rule : Transition) → condition_fits sizes rule.condition ≡ true → list_all (change_fits sizes) rule.on_true ≡ true →
      list_all (change_fits sizes) rule.on_false ≡ true → rule_fits sizes rule ≡ true
  made rule condition on_true on_false =
      and_from (condition_fits sizes rule.condition) (list_all (change_fits sizes) rule.on_true && list_all (change_fits sizes) rule.on_false) condition
      (and_from (list_all (change_fits sizes) rule.on_true) (list_all (change_fits sizes) rule.on_false) on_true on_false)

  one : (change : Change) → change_fits sizes change ≡ true → list_all (change_fits sizes) (change ∷ []) ≡ true
  one change h = and_from (change_fits sizes change) true h refl

  where_fits : (b : Bool) (rule : Transition) → rule_fits sizes rule ≡ true → list_all (rule_fits sizes) (rule_where b rule) ≡ true
  where_fits true rule h = and_from (rule_fits sizes rule) true h refl
  where_fits false rule h = refl

  flagged_fits : (n : Node) (on_true : List Change) → list_all (change_fits sizes) on_true ≡ true → rule_fits sizes (flagged n on_true) ≡ true
  flagged_fits n on_true h = made (flagged n on_true) refl h refl

  joins_fit : (l : Label) (bodies : Bodies) (age : Age) (n : Node) (next : Change) → Good ok (spots_in_each l 0 bodies) →
      change_fits sizes next ≡ true → rule_fits sizes (joins slots l bodies age n next) ≡ true
  joins_fit l bodies age n next good h =
      made (joins slots l bodies age n next) (needed_fits age l bodies good)
      (all_append (change_fits sizes) (map ClearsCounter (once (counters_in_each slots l 0 bodies))) (next ∷ [])
      (frees_fit (once (counters_in_each slots l 0 bodies))
      (once_low [] (counters_in_each slots l 0 bodies) (counters_each_low l 0 bodies good.fit))) (one next h)) refl

  -- the rule that ends a `cobegin` in a later tick, and that of the check of a `when`
  abbrev depth_join : Label → Place → Bodies → Change → Transition
  depth_join l at bodies next = joins slots l bodies (age_of (is_instant (Cobegin l at bodies)) (ForkAt l at)) (DepthJoinAt l at) next

  abbrev surface_join : Label → Place → Bodies → Change → Transition
  surface_join l at bodies next = joins slots l bodies (IsNew (ForkAt l at)) (SurfaceJoinAt l at) next

  abbrev check_rule : Label → Place → Guard → Expr → Block → Change → Transition
  check_rule l at guard e body next = record {
    node = CheckAt l at e;
    condition = RestedIn (rests_in slots body);
    on_true = map ClearsBoth (once (counters_in slots body)) ++ fires guard l at body next ∷ [];
    on_false = [];
  }

  check_fits : (k : ℕ) (l : Label) (at : Place) (guard : Guard) (e : Expr) (body : Block) (next : Change) →
      list_all ok (spots_in body) ≡ true → BlockRestsAt slots k body → change_fits sizes next ≡ true →
      rule_fits sizes (check_rule l at guard e body next) ≡ true
  check_fits k l at guard e body next fit laid h =
      made (check_rule l at guard e body next)
      (one_fits k (rests_in slots body) (rests_in_fit body fit) (rests_in_one k body laid))
      (all_append (change_fits sizes) (map ClearsBoth (once (counters_in slots body))) (fires guard l at body next ∷ [])
      (forgets_fit (once (counters_in slots body)) (once_low [] (counters_in slots body) (counters_in_low body fit)))
      (one (fires guard l at body next) (fires_fits guard l at body next h))) refl

  -- a rest that is over
  abbrev rested_rule : Label → Node → Change → Transition
  rested_rule l n next = record { node = n; condition = Rested (slots.rest l); on_true = next ∷ []; on_false = [] }

  rested_fits : (l : Label) (n : Node) (next : Change) → slot_fits sizes (slots.rest l) ≡ true → change_fits sizes next ≡ true →
      rule_fits sizes (rested_rule l n next)
      ≡ true
  rested_fits l n next fit h =
      made (rested_rule l n next) fit (one next h) refl

  tested_fits : (n : Node) (on_true on_false : Change) → change_fits sizes on_true ≡ true → change_fits sizes on_false ≡ true →
      rule_fits sizes (record { node = n; condition = Flagged; on_true = on_true ∷ []; on_false = on_false ∷ [] }) ≡ true
  tested_fits n on_true on_false h g =
      made (record { node = n; condition = Flagged; on_true = on_true ∷ []; on_false = on_false ∷ [] }) refl (one on_true h) (one on_false g)

  again_fits : (l : Label) (at : Place) (body : Block) (e : Expr) (next : Change) → change_fits sizes next ≡ true →
      list_all (rule_fits sizes) (rules_in slots body (SetsFlag (TestAt l at e))) ≡ true →
      list_all (rule_fits sizes) (rules_of slots (Until l at body e) next) ≡ true
  again_fits l at body e next h inner =
      all_with (rule_fits sizes) (flagged (HeadAt l at) (enter body (SetsFlag (TestAt l at e)) ∷ []))
      (record { node = TestAt l at e; condition = Flagged; on_true = next ∷ []; on_false = SetsFlag (HeadAt l at) ∷ [] }
      ∷ rules_in slots body (SetsFlag (TestAt l at e)))
      (flagged_fits (HeadAt l at) (enter body (SetsFlag (TestAt l at e)) ∷ [])
      (one (enter body (SetsFlag (TestAt l at e))) (enter_fits body (SetsFlag (TestAt l at e)) refl)))
      (all_with (rule_fits sizes) (record { node = TestAt l at e; condition = Flagged; on_true = next ∷ []; on_false = SetsFlag (HeadAt l at) ∷ [] })
      (rules_in slots body (SetsFlag (TestAt l at e)))
      (tested_fits (TestAt l at e) next (SetsFlag (HeadAt l at)) h refl)
      inner)

  mutual
    stmt_fits : (k : ℕ) (s : Plain) (next : Change) → Good ok (spots_of s) → StatementRestsAt slots k s → change_fits sizes next ≡ true →
        list_all (rule_fits sizes) (rules_of slots s next) ≡ true
    stmt_fits k (Act l s) next good laid h = all_with (rule_fits sizes) (flagged (ActAt l s) (next ∷ [])) []
        (flagged_fits (ActAt l s) (next ∷ []) (one next h)) refl
    stmt_fits k (Await l at e) next good laid h =
        let fit : slot_fits sizes (slots.rest l) ≡ true = and_first (slot_fits sizes (slots.rest l)) true good.fit in
        all_with (rule_fits sizes) (flagged (PauseAt l at) (SetsCounter (slots.rest l) ∷ [])) (rested_rule l (TestAt l at e) next ∷ [])
        (flagged_fits (PauseAt l at) (SetsCounter (slots.rest l) ∷ []) (one (SetsCounter (slots.rest l)) fit))
        (and_from (rule_fits sizes (rested_rule l (TestAt l at e) next)) true (rested_fits l (TestAt l at e) next fit h) refl)
    stmt_fits k (RunOf l at target a inputs outputs) next good laid h =
        let fit : slot_fits sizes (slots.rest l) ≡ true = and_first (slot_fits sizes (slots.rest l)) true good.fit in
        all_with (rule_fits sizes) (flagged (EnterAt l at (arguments_of target inputs outputs)) (SetsCounter (slots.rest l) ∷ []))
        (rested_rule l (ResumeAt l at (arguments_of target inputs outputs)) next ∷ [])
        (flagged_fits (EnterAt l at (arguments_of target inputs outputs)) (SetsCounter (slots.rest l) ∷ []) (one (SetsCounter (slots.rest l)) fit))
        (and_from (rule_fits sizes (rested_rule l (ResumeAt l at (arguments_of target inputs outputs)) next)) true
        (rested_fits l (ResumeAt l at (arguments_of target inputs outputs)) next fit h) refl)
    stmt_fits k (If l at e body other) next good laid h =
        all_with (rule_fits sizes)
        (record { node = TestAt l at e; condition = Flagged; on_true = enter body next ∷ []; on_false = enter other next ∷ [] })
        (rules_in slots body next ++ rules_in slots other next)
        (tested_fits (TestAt l at e) (enter body next) (enter other next) (enter_fits body next h) (enter_fits other next h))
        (all_append (rule_fits sizes) (rules_in slots body next) (rules_in slots other next)
        (block_fits k body next (good_left ok (spots_in body) (spots_in other) good) laid.0 h)
        (block_fits k other next (good_right ok (spots_in body) (spots_in other) good) laid.1 h))
    stmt_fits k (Cobegin l at bodies) next good laid h =
        all_with (rule_fits sizes)
        (flagged (ForkAt l at) (marked (is_instant (Cobegin l at bodies)) (ForkAt l at) (enter_each slots l 0 bodies)))
        (rule_where (is_instant (Cobegin l at bodies)) (surface_join l at bodies next)
        ++ depth_join l at bodies next ∷ rules_in_each slots l 0 bodies)
        (flagged_fits (ForkAt l at) (marked (is_instant (Cobegin l at bodies)) (ForkAt l at) (enter_each slots l 0 bodies))
        (marked_fits (is_instant (Cobegin l at bodies)) (ForkAt l at) (enter_each slots l 0 bodies) (enter_each_fits l 0 bodies good.fit)))
        (all_append (rule_fits sizes) (rule_where (is_instant (Cobegin l at bodies)) (surface_join l at bodies next))
        (depth_join l at bodies next ∷ rules_in_each slots l 0 bodies)
        (where_fits (is_instant (Cobegin l at bodies)) (surface_join l at bodies next)
        (joins_fit l bodies (IsNew (ForkAt l at)) (SurfaceJoinAt l at) next good h))
        (all_with (rule_fits sizes) (depth_join l at bodies next) (rules_in_each slots l 0 bodies)
        (joins_fit l bodies (age_of (is_instant (Cobegin l at bodies)) (ForkAt l at)) (DepthJoinAt l at) next good h)
        (bodies_fit l 0 bodies good laid.1)))
    stmt_fits k (When l at guard e body) next good laid h =
        all_with (rule_fits sizes)
        (flagged (StartAt l at) (marked (are_instant body) (StartAt l at) (enter body (body_ends l at body) ∷ [])))
        (rule_where (are_instant body) (flagged (SurfaceEndAt l at) (next ∷ []))
        ++ check_rule l at guard e body next ∷ flagged (DepthEndAt l at) (next ∷ []) ∷ rules_in slots body (body_ends l at body))
        (flagged_fits (StartAt l at) (marked (are_instant body) (StartAt l at) (enter body (body_ends l at body) ∷ []))
        (marked_fits (are_instant body) (StartAt l at) (enter body (body_ends l at body) ∷ [])
        (one (enter body (body_ends l at body)) (enter_fits body (body_ends l at body) (ends_fit l at body)))))
        (all_append (rule_fits sizes) (rule_where (are_instant body) (flagged (SurfaceEndAt l at) (next ∷ [])))
        (check_rule l at guard e body next ∷ flagged (DepthEndAt l at) (next ∷ []) ∷ rules_in slots body (body_ends l at body))
        (where_fits (are_instant body) (flagged (SurfaceEndAt l at) (next ∷ [])) (flagged_fits (SurfaceEndAt l at) (next ∷ []) (one next h)))
        (all_with (rule_fits sizes) (check_rule l at guard e body next)
        (flagged (DepthEndAt l at) (next ∷ []) ∷ rules_in slots body (body_ends l at body))
        (check_fits k l at guard e body next good.fit laid h)
        (all_with (rule_fits sizes) (flagged (DepthEndAt l at) (next ∷ [])) (rules_in slots body (body_ends l at body))
        (flagged_fits (DepthEndAt l at) (next ∷ []) (one next h))
        (block_fits k body (body_ends l at body) good laid (ends_fit l at body)))))
    stmt_fits k (Repeat l at body) next good laid h =
        all_with (rule_fits sizes) (flagged (HeadAt l at) (enter body (SetsFlag (HeadAt l at)) ∷ [])) (rules_in slots body (SetsFlag (HeadAt l at)))
        (flagged_fits (HeadAt l at) (enter body (SetsFlag (HeadAt l at)) ∷ [])
        (one (enter body (SetsFlag (HeadAt l at))) (enter_fits body (SetsFlag (HeadAt l at)) refl)))
        (block_fits k body (SetsFlag (HeadAt l at)) good laid refl)
    stmt_fits k (Until l at body e) next good laid h = again_fits l at body e next h (block_fits k body (SetsFlag (TestAt l at e)) good laid refl)
    stmt_fits k (While l at e body) next good laid h =
        all_with (rule_fits sizes)
        (record { node = TestAt l at e; condition = Flagged; on_true = enter body (SetsFlag (TestAt l at e)) ∷ []; on_false = next ∷ [] })
        (rules_in slots body (SetsFlag (TestAt l at e)))
        (tested_fits (TestAt l at e) (enter body (SetsFlag (TestAt l at e))) next (enter_fits body (SetsFlag (TestAt l at e)) refl) h)
        (block_fits k body (SetsFlag (TestAt l at e)) good laid refl)
    stmt_fits k (Again l at body e) next good laid h = again_fits l at body e next h (block_fits k body (SetsFlag (TestAt l at e)) good laid refl)

    pub block_fits : (k : ℕ) (body : Block) (next : Change) → Good ok (spots_in body) → BlockRestsAt slots k body →
        change_fits sizes next ≡ true → list_all (rule_fits sizes) (rules_in slots body next) ≡ true
    block_fits k Done next good laid h = refl
    block_fits k (Then s rest) next good laid h =
        all_append (rule_fits sizes) (rules_of slots s (enter rest next)) (rules_in slots rest next)
        (stmt_fits k s (enter rest next) (good_left ok (spots_of s) (spots_in rest) good) laid.0 (enter_fits rest next h))
        (block_fits k rest next (good_right ok (spots_of s) (spots_in rest) good) laid.1 h)

    bodies_fit : (l : Label) (k : ℕ) (bodies : Bodies) → Good ok (spots_in_each l k bodies) → BranchesRestAt slots l k bodies →
        list_all (rule_fits sizes) (rules_in_each slots l k bodies) ≡ true
    bodies_fit l k Last good laid = refl
    bodies_fit l k (BodyOf weak body rest) good laid =
        let later = good_later ok (EndOf l k) (spots_in body ++ spots_in_each l (suc k) rest) good in
        all_append (rule_fits sizes) (rules_in slots body (SetsCounter (slots.ending l k))) (rules_in_each slots l (suc k) rest)
        (block_fits (slots.ending l k).counter body (SetsCounter (slots.ending l k))
        (good_left ok (spots_in body) (spots_in_each l (suc k) rest) later) laid.0
        (all_first ok (EndOf l k) (spots_in body ++ spots_in_each l (suc k) rest) good.fit))
        (bodies_fit l (suc k) rest (good_right ok (spots_in body) (spots_in_each l (suc k) rest) later) laid.2)
