-- The numbers of flags, marks and `run`s differ where those of nodes do.
use Rattle.std.proofs.Common.{◌≡◌, ℕ, ◌+◌, ◌≤◌, ◌^◌, Bool, true, false, not, ◌&&◌, ◌||◌}
use Rattle.std.proofs.Common.{List, [], ◌∷◌, ◌++◌, cond, filter, length, map, refl, sym, ap, ◌∙◌, subst, arith}
use Rattle.std.proofs.lemmas.Bool.Decides.{nat_tests}
use Rattle.std.proofs.lemmas.List.{length-map, map-append}
use Rattle.std.proofs.lemmas.List.Folds.{list_all-append}
use Rattle.std.proofs.lemmas.List.Sums.{sum_by-append, sum_by-cons}
use Rattle.std.specs.List.{list_all, list_any}
use Rattle.std.specs.Prelude.{IsPermutation, nat_eq, nat_lt, sum_by, if◌then◌else◌}
use Rattle.std.proofs.lemmas.Bool.{and_from, not-true, or_from}
use Rattle.bl_tree.proofs.Basics.{and_first, and_second, neither_first, neither_second}
use Rattle.bl_tree.specs.Reduce.{joined}
use Rattle.bl_machine.specs.Blocks.{up_to}
use Rattle.bl_graph_nodes.specs.Nodes.{ActAt, CheckAt, DepthEndAt, DepthJoinAt, EnterAt, ForkAt, HeadAt, Node, PauseAt, ResumeAt}
use Rattle.bl_graph_nodes.specs.Nodes.{StartAt, SurfaceEndAt, SurfaceJoinAt, TestAt, nodes_in}
use Rattle.bl_machine_pass.specs.Transitions.{Finishes, Transition}
use Rattle.bl_tree.specs.Rules.{same_place}
use Rattle.bl_emit_spec.specs.Activities.{Activity, RunAt, activity_view, body_of, callees_in, first_rules, first_positions, is_flagged, one_a_place, picked}
use Rattle.bl_emit_spec.specs.Activities.{rules_at, run_at, runs_at}
use Rattle.bl_emit_spec_laws_wellformed.specs.Names.{are_numbers, flag_number, mark_numbers}
use Rattle.bl_emit_spec_laws_wellformed.proofs.OnNodes.Rules.{of_block as nodes_of_block}
use Rattle.bl_emit_spec_laws_wellformed.specs.Numbers.{EachStandsOnce, NumbersFollow}
use Rattle.bl_emit_spec_laws_wellformed.proofs.OnNumbers.Firsts.{picked-all, picked-less}
use Rattle.bl_emit_spec_laws_wellformed.proofs.OnNumbers.Marks.{AllOwn, None_set, Own_set, Owns, of_block}

-- numbers that something has: none, or its own
data Few (n : ℕ) (ns : List ℕ) : Type 0 where
  Nothing_of : ns ≡ [] → Few n ns
  Just_own : ns ≡ n ∷ [] → Few n ns

-- those of several things, in order
record Some_of (all some : List ℕ) : Type 0 where
  none : (k : ℕ) → list_any (nat_eq k) all ≡ false → list_any (nat_eq k) some ≡ false
  numbers : are_numbers all ≡ true → are_numbers some ≡ true

nothing_of : Some_of [] []
nothing_of = record { none = λ k h. refl; numbers = λ all. refl }

more_of : (n : ℕ) (ns all some : List ℕ) → Few n ns → Some_of all some → Some_of (n ∷ all) (ns ++ some)
more_of n ns all some (Nothing_of is) rest =
    subst (λ ns. Some_of (n ∷ all) (ns ++ some)) (sym is) (record {
      none = λ k h. rest.none k (neither_second (nat_eq k n) (list_any (nat_eq k) all) h);
      numbers = λ h. rest.numbers (and_second (not (list_any (nat_eq n) all)) (are_numbers all) (and_second (nat_lt n (2 ^ 64)) _ h));
    })
more_of n ns all some (Just_own is) rest =
    subst (λ ns. Some_of (n ∷ all) (ns ++ some)) (sym is) (record {
      none = λ k h.
          or_from (nat_eq k n) (list_any (nat_eq k) some) (neither_first (nat_eq k n) (list_any (nat_eq k) all) h)
          (rest.none k (neither_second (nat_eq k n) (list_any (nat_eq k) all) h));
      numbers = λ h.
          let more = and_second (nat_lt n (2 ^ 64)) _ h in
          and_from (nat_lt n (2 ^ 64)) (not (list_any (nat_eq n) some) && are_numbers some) (and_first (nat_lt n (2 ^ 64)) _ h)
          (and_from (not (list_any (nat_eq n) some)) (are_numbers some)
          (ap not (rest.none n (not-true (list_any (nat_eq n) all) (and_first (not (list_any (nat_eq n) all)) (are_numbers all) more))))
          (rest.numbers (and_second (not (list_any (nat_eq n) all)) (are_numbers all) more)));
    })

fewer_of : (n : ℕ) (all some : List ℕ) → Some_of all some → Some_of (n ∷ all) some
fewer_of n all some rest = more_of n [] all some (Nothing_of refl) rest

some_then : (all some few : List ℕ) → Some_of all some → Some_of some few → Some_of all few
some_then all some few one two = record { none = λ k h. two.none k (one.none k h); numbers = λ h. two.numbers (one.numbers h) }

none_of : (all : List ℕ) → Some_of all []
none_of [] = nothing_of
none_of (n ∷ all) = fewer_of n all [] (none_of all)

-- ---- numbers that stand once

abbrev pub as_one : Bool → ℕ
as_one b = if b then 1 else 0

-- how often a number stands among others
abbrev times : ℕ → List ℕ → ℕ
times k ns = sum_by (λ n. as_one (nat_eq k n)) ns

none_times : (k : ℕ) (ns : List ℕ) → list_any (nat_eq k) ns ≡ false → times k ns ≡ 0
none_times k [] none = refl
none_times k (n ∷ ns) none =
    let sum = sum_by-cons (λ n. as_one (nat_eq k n)) n ns in
    let first : as_one (nat_eq k n) ≡ 0 = ap as_one (neither_first (nat_eq k n) (list_any (nat_eq k) ns) none) in
    let later = none_times k ns (neither_second (nat_eq k n) (list_any (nat_eq k) ns) none) in
    omega (arith, sum, first, later)

some_times : (k : ℕ) (ns : List ℕ) → list_any (nat_eq k) ns ≡ true → 1 ≤ times k ns
some_times k [] some = absurd (cc)
some_times k (n ∷ ns) some = by (nat_eq k n) refl some (some_times k ns)
  where
    all : times k (n ∷ ns) ≡ as_one (nat_eq k n) + times k ns
    all = sum_by-cons (λ n. as_one (nat_eq k n)) n ns

    by : (b : Bool) → nat_eq k n ≡ b → (b || list_any (nat_eq k) ns) ≡ true → (list_any (nat_eq k) ns ≡ true → 1 ≤ times k ns) →
        1 ≤ times k (n ∷ ns)
    by true is some rest = let one : as_one (nat_eq k n) ≡ 1 = ap as_one is in let sum = all in omega (arith, one, sum)
    by false is some rest = let more = rest some in let sum = all in omega (arith, more, sum)

-- numbers that differ stand once each
numbers_once : (ns : List ℕ) → are_numbers ns ≡ true → (k : ℕ) → times k ns ≤ 1
numbers_once [] all k = omega arith
numbers_once (n ∷ ns) all k =
    by (nat_eq k n) refl (numbers_once ns (and_second (not (list_any (nat_eq n) ns)) (are_numbers ns) more) k)
  where
    more : (not (list_any (nat_eq n) ns) && are_numbers ns) ≡ true
    more = and_second (nat_lt n (2 ^ 64)) (not (list_any (nat_eq n) ns) && are_numbers ns) all

    sum : times k (n ∷ ns) ≡ as_one (nat_eq k n) + times k ns
    sum = sum_by-cons (λ n. as_one (nat_eq k n)) n ns

    same_number : nat_eq k n ≡ true → k ≡ n
    same_number h = grind (arith, nat_tests, h)

    by : (b : Bool) → nat_eq k n ≡ b → times k ns ≤ 1 → times k (n ∷ ns) ≤ 1
    by true is rest =
        let none : times n ns ≡ 0 =
        none_times n ns (not-true (list_any (nat_eq n) ns) (and_first (not (list_any (nat_eq n) ns)) (are_numbers ns) more)) in
        let other : times k ns ≡ 0 = ap (λ j. times j ns) (same_number is) ∙ none in
        let one : as_one (nat_eq k n) ≡ 1 = ap as_one is in
        let whole = sum in omega (arith, one, other, whole)
    by false is rest =
        let none : as_one (nat_eq k n) ≡ 0 = ap as_one is in
        let whole = sum in omega (arith, none, rest, whole)

abbrev small : ℕ → Bool
small n = nat_lt n (2 ^ 64)

numbers_small : (ns : List ℕ) → are_numbers ns ≡ true → list_all small ns ≡ true
numbers_small [] all = refl
numbers_small (n ∷ ns) all =
    let more = and_second (nat_lt n (2 ^ 64)) (not (list_any (nat_eq n) ns) && are_numbers ns) all in
    and_from (small n) (list_all small ns) (and_first (nat_lt n (2 ^ 64)) _ all)
    (numbers_small ns (and_second (not (list_any (nat_eq n) ns)) (are_numbers ns) more))

-- small numbers that stand once each differ
once_numbers : (ns : List ℕ) → list_all small ns ≡ true → ((k : ℕ) → times k ns ≤ 1) → are_numbers ns ≡ true
once_numbers [] all once = refl
once_numbers (n ∷ ns) all once =
    and_from (small n) (not (list_any (nat_eq n) ns) && are_numbers ns) (and_first (small n) (list_all small ns) all)
    (and_from (not (list_any (nat_eq n) ns)) (are_numbers ns) (by (list_any (nat_eq n) ns) refl)
    (once_numbers ns (and_second (small n) (list_all small ns) all) less))
  where
    sum : (k : ℕ) → times k (n ∷ ns) ≡ as_one (nat_eq k n) + times k ns
    sum k = sum_by-cons (λ n. as_one (nat_eq k n)) n ns

    less : (k : ℕ) → times k ns ≤ 1
    less k = let whole = sum k in let one = once k in omega (arith, whole, one)

    itself : nat_eq n n ≡ true
    itself = grind (arith, nat_tests)

    by : (b : Bool) → list_any (nat_eq n) ns ≡ b → not b ≡ true
    by false is = refl
    by true is =
        let some = some_times n ns is in
        let own : as_one (nat_eq n n) ≡ 1 = ap as_one itself in
        let whole = sum n in
        let one = once n in absurd (omega (arith, some, own, whole, one))

module _ (number : Node → ℕ) where
  abbrev numbers_of : List Transition → List ℕ
  numbers_of rules = map (λ (rule : Transition). number rule.node) rules

  flag_few : (rule : Transition) → Few (number rule.node) (flag_number number rule)
  flag_few rule = by (is_flagged rule.condition)
    where
      by : (b : Bool) → Few (number rule.node) (if b then number rule.node ∷ [] else [])
      by true = Just_own refl
      by false = Nothing_of refl

  flags_some : (rules : List Transition) → Some_of (numbers_of rules) (joined (map (flag_number number) rules))
  flags_some [] = nothing_of
  flags_some (rule ∷ rules) =
      more_of (number rule.node) (flag_number number rule) (numbers_of rules) (joined (map (flag_number number) rules)) (flag_few rule)
      (flags_some rules)

  abbrev flags_of : List Transition → List ℕ
  flags_of rules = joined (map (flag_number number) rules)

  -- how often a number is that of a flag
  flag_times : (k : ℕ) (rules : List Transition) →
      times k (flags_of rules) ≡ sum_by (λ (rule : Transition). times k (flag_number number rule)) rules
  flag_times k [] = refl
  flag_times k (rule ∷ rules) =
      sum_by-append (λ n. as_one (nat_eq k n)) (flag_number number rule) (flags_of rules)
      ∙ ap (λ n. times k (flag_number number rule) + n) (flag_times k rules)
      ∙ sym (sum_by-cons (λ (rule : Transition). times k (flag_number number rule)) rule rules)

  abbrev rule_small : Transition → Bool
  rule_small rule = small (number rule.node)

  rules_small : (rules : List Transition) → list_all small (numbers_of rules) ≡ true → list_all rule_small rules ≡ true
  rules_small [] all = refl
  rules_small (rule ∷ rules) all =
      and_from (rule_small rule) (list_all rule_small rules) (and_first (rule_small rule) (list_all small (numbers_of rules)) all)
      (rules_small rules (and_second (rule_small rule) (list_all small (numbers_of rules)) all))

  flags_small : (rules : List Transition) → list_all rule_small rules ≡ true → list_all small (flags_of rules) ≡ true
  flags_small [] all = refl
  flags_small (rule ∷ rules) all =
      list_all-append small (flag_number number rule) (flags_of rules)
      ∙ and_from (list_all small (flag_number number rule)) (list_all small (flags_of rules))
      (by (is_flagged rule.condition) (and_first (rule_small rule) (list_all rule_small rules) all))
      (flags_small rules (and_second (rule_small rule) (list_all rule_small rules) all))
    where
      by : (b : Bool) → rule_small rule ≡ true → list_all small (if b then number rule.node ∷ [] else []) ≡ true
      by true own = and_from (rule_small rule) true own refl
      by false own = refl

  -- the flags of nodes that stand first in blocks differ
  first_flags : (rules : List Transition) (blocks : List (List ℕ)) → IsPermutation (up_to (length rules)) (joined blocks) →
      are_numbers (numbers_of rules) ≡ true → are_numbers (flags_of (picked rules (first_positions blocks))) ≡ true
  first_flags rules blocks each all =
      let some : List Transition = picked rules (first_positions blocks) in
      once_numbers (flags_of some)
      (flags_small some (picked-all rule_small rules (first_positions blocks) (rules_small rules (numbers_small (numbers_of rules) all))))
      (λ k. let less = picked-less (λ (rule : Transition). times k (flag_number number rule)) rules blocks each in
      let own = flag_times k some in
      let whole = flag_times k rules in
      let once = numbers_once (flags_of rules) ((flags_some rules).numbers all) k in
      omega (arith, less, own, whole, once))

  mark_few : (rule : Transition) → Owns number rule → Few (number rule.node) (mark_numbers number rule)
  mark_few rule (None_set is) = Nothing_of is
  mark_few rule (Own_set is) = Just_own is

  marks_some : (rules : List Transition) → AllOwn number rules → Some_of (numbers_of rules) (joined (map (mark_numbers number) rules))
  marks_some [] own = nothing_of
  marks_some (rule ∷ rules) own =
      more_of (number rule.node) (mark_numbers number rule) (numbers_of rules) (joined (map (mark_numbers number) rules)) (mark_few rule own.0)
      (marks_some rules own.1)

  abbrev run_numbers : List RunAt → List ℕ
  run_numbers runs = map (λ (run : RunAt). run.number) runs

  run_few : (f : ℕ) (n : Node) → Few (number n) (run_numbers (run_at number f n))
  run_few f (EnterAt l at arguments) = Just_own refl
  run_few f (ActAt l s) = Nothing_of refl
  run_few f (TestAt l at e) = Nothing_of refl
  run_few f (PauseAt l at) = Nothing_of refl
  run_few f (ResumeAt l at arguments) = Nothing_of refl
  run_few f (HeadAt l at) = Nothing_of refl
  run_few f (StartAt l at) = Nothing_of refl
  run_few f (CheckAt l at e) = Nothing_of refl
  run_few f (SurfaceEndAt l at) = Nothing_of refl
  run_few f (DepthEndAt l at) = Nothing_of refl
  run_few f (ForkAt l at) = Nothing_of refl
  run_few f (SurfaceJoinAt l at) = Nothing_of refl
  run_few f (DepthJoinAt l at) = Nothing_of refl

  runs_some : (callees : List ℕ) (rules : List Transition) → Some_of (numbers_of rules) (run_numbers (runs_at number callees rules))
  runs_some [] rules = none_of (numbers_of rules)
  runs_some (f ∷ callees) [] = nothing_of
  runs_some (f ∷ callees) (rule ∷ rules) =
      subst (Some_of (numbers_of (rule ∷ rules)))
      (sym (map-append (λ (run : RunAt). run.number) (run_at number f rule.node) (runs_at number callees rules)))
      (more_of (number rule.node) (run_numbers (run_at number f rule.node)) (numbers_of rules) (run_numbers (runs_at number callees rules))
      (run_few f rule.node) (runs_some callees rules))

  filtered_some : (test : RunAt → Bool) (runs : List RunAt) → Some_of (run_numbers runs) (run_numbers (filter test runs))
  filtered_some test [] = nothing_of
  filtered_some test (run ∷ runs) = by (test run) (filtered_some test runs)
    where
      by : (b : Bool) → Some_of (run_numbers runs) (run_numbers (filter test runs)) →
          Some_of (run_numbers (run ∷ runs)) (run_numbers (cond b (run ∷ filter test runs) (filter test runs)))
      by true rest =
          more_of run.number (run.number ∷ []) (run_numbers runs) (run_numbers (filter test runs)) (Just_own refl) rest
      by false rest = fewer_of run.number (run_numbers runs) (run_numbers (filter test runs)) rest

  -- the first `run`s of places have some of the numbers
  once_some : (runs : List RunAt) → Some_of (run_numbers runs) (run_numbers (one_a_place runs))
  once_some [] = nothing_of
  once_some (run ∷ runs) =
      let test : RunAt → Bool = λ other. not (same_place run.place other.place) in
      more_of run.number (run.number ∷ []) (run_numbers runs) (run_numbers (filter test (one_a_place runs))) (Just_own refl)
      (some_then (run_numbers runs) (run_numbers (one_a_place runs)) (run_numbers (filter test (one_a_place runs))) (once_some runs)
      (filtered_some test (one_a_place runs)))

  by_nodes : (rules : List Transition) → numbers_of rules ≡ map number (map (λ (rule : Transition). rule.node) rules)
  by_nodes [] = refl
  by_nodes (rule ∷ rules) = ap (λ rest. number rule.node ∷ rest) (by_nodes rules)

pub many-rules : (a : Activity) → length (rules_at a) ≡ length (nodes_in (body_of a))
many-rules a =
    sym (length-map (rules_at a) (λ (rule : Transition). rule.node)) ∙ ap (λ (ns : List Node). length ns) (nodes_of_block a.slots (body_of a) Finishes)

each_rule : (a : Activity) → EachStandsOnce a → IsPermutation (up_to (length (rules_at a))) (joined a.blocks)
each_rule a each = subst (λ n. IsPermutation (up_to n) (joined a.blocks)) (sym (many-rules a)) each

-- the rules of nodes that stand first in blocks weigh no more than all
pub first-less : (w : Transition → ℕ) (a : Activity) → EachStandsOnce a → sum_by w (first_rules a) ≤ sum_by w (rules_at a)
first-less w a each = picked-less w (rules_at a) a.blocks (each_rule a each)

pub follow : NumbersFollow
follow a variables counters each differ =
    let number : Node → ℕ = (activity_view a).number in
    let all : are_numbers (numbers_of (activity_view a).number (rules_at a)) ≡ true =
    ap are_numbers (by_nodes (activity_view a).number (rules_at a) ∙ ap (map (activity_view a).number) (nodes_of_block a.slots (body_of a) Finishes))
    ∙ differ in
    record {
      variables = variables;
      counters = counters;
      flags = first_flags (activity_view a).number (rules_at a) a.blocks (each_rule a each) all;
      marks = (marks_some (activity_view a).number (rules_at a) (of_block (activity_view a).number a.slots (body_of a) Finishes refl)).numbers all;
      runs = (once_some (activity_view a).number (runs_at (activity_view a).number (callees_in (body_of a)) (rules_at a))).numbers
          ((runs_some (activity_view a).number (callees_in (body_of a)) (rules_at a)).numbers all);
    }
