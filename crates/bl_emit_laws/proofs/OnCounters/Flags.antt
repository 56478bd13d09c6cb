-- The flags of an activity's function, and what the guards of its nodes read.
use Rattle.std.proofs.Common.{◌≡◌, ℕ, zero, suc, ◌+◌, ◌/◌, ◌%◌, ◌<◌, Bool, true, false, ◌&&◌, ◌||◌, cond, List, [], ◌∷◌, ◌++◌, map, length}
use Rattle.std.proofs.Common.{Option, Some, None, refl, ap, ◌∙◌, arith}
use Rattle.std.proofs.lemmas.Bool.Decides.{nat_tests}
use Rattle.std.proofs.lemmas.List.{append-nil, map-append}
use Rattle.std.proofs.lemmas.List.Elements.{filter-append}
use Rattle.std.specs.Char.{is_ascii_digit}
use Rattle.std.specs.Fmt.{digit_glyph, digits, digits_onto}
use Rattle.std.specs.Prelude.{◌==◌, filter, nat_eq, option_and_then, slice_get, if◌then◌else◌}
use Rattle.std.proofs.lemmas.Bool.{and_from}
use Rattle.bl_tree.proofs.Basics.{last_digit, less_test}
use Rattle.bl_tree.specs.declared.text.Text.{Text}
use Rattle.bl_tree.specs.declared.c.CExpr.{CExpr}
use Rattle.bl_tree.specs.declared.c.CLocal.{CLocal}
use Rattle.bl_tree.specs.declared.scalar.Op.{Op}
use Rattle.bl_tree.specs.declared.scalar.Op.TheVariants.{And, Eq, Ge, Le, Ne, Or}
use Rattle.bl_tree.specs.declared.scalar.Scalar.{Scalar as ScalarType}
use Rattle.bl_tree.specs.declared.scalar.Scalar.TheVariants.{Bool as OfBool}
use Rattle.bl_tree.specs.declared.tree.Unit.{Unit as UnitDef}
use Rattle.bl_tree.specs.Reduce.{joined}
use Rattle.bl_graph_nodes.specs.Nodes.{Node}
use Rattle.bl_machine.specs.declared.slots.Slot.{Slot}
use Rattle.bl_machine_pass.specs.Transitions.{Age, Change, Condition, Needed, Transition}
use Rattle.bl_machine_pass.specs.Transitions.{ClearsBoth, ClearsCounter, Ended, EndsWhen, Finishes, Flagged, IsAny, IsNew, IsOld, Rested, RestedIn, SetsCounter}
use Rattle.bl_machine_pass.specs.Transitions.{SetsFlag, SetsMark}
use Rattle.bl_emit_acts.specs.Expressions.{hidden}
use Rattle.bl_emit_acts.specs.Trees.{c_not, c_read, c_two}
use Rattle.bl_emit_functions.specs.Trees.{c_truth}
use Rattle.bl_emit_spec.specs.Activities.{Activity, RunAt, activity_locals, activity_view, copied_in, copy_local, counters_read, first_rules, flag_local}
use Rattle.bl_emit_spec.specs.Activities.{given_local, is_flagged, mark_local, mark_locals, rested_local, rules_at, run_locals, runs_in_body, scalar_local}
use Rattle.bl_emit_spec.specs.Activities.{word_of_run, ended_local, some_ends}
use Rattle.bl_emit_spec.specs.Blocks.{ActivityView, Sizes, aged_test, all_tests, at_slot, counter_type, counter_value, ends_test, guard_of, in_pairs, in_tree}
use Rattle.bl_emit_spec.specs.Blocks.{is_greatest, last_value, node_word, rested_at, rested_by, rested_from, rested_in, rested_since, rested_to, rested_within}
use Rattle.bl_emit_spec.specs.Blocks.{some_test}
use Rattle.bl_emit_spec.specs.Names.{NumberedWord, counter_name, counter_place, flag_name, flag_place, mark_name, mark_place, rested_name, rested_place}
use Rattle.bl_emit_laws.specs.Counters.Flags.{flags_read, is_digits_and_word, is_flag_name, is_numbered_word}
use Rattle.bl_ctext_places.specs.Places.{CPath, places_in}
use Rattle.bl_emit_laws.proofs.OnCounters.Decided.{IsNoFlag, NoFlag, begins, local-read, none-read, variables}
use Rattle.bl_emit_laws.proofs.OnCounters.Fine.{Fine, same-fine}
use Rattle.bl_emit_laws.proofs.OnCounters.Guards.{counter-names, own_counter}
use Rattle.bl_emit_laws.proofs.OnCounters.Paths.{hidden-fine, literal-fine, not-fine, two-fine}
use Rattle.bl_emit_laws.proofs.OnCounters.Shapes.{place-names, read-names}

-- ---- names of flags

pub digit_so : (d : ℕ) → d < 10 → is_ascii_digit (48 + d) ≡ true
digit_so d small = grind (arith, nat_tests)

glyph_so : (n : ℕ) → is_ascii_digit (digit_glyph false (n % 10)) ≡ true
glyph_so n =
    ap (λ (b : Bool). is_ascii_digit (if b then 48 + n % 10 else 87 + n % 10)) (less_test (n % 10) 10 (last_digit n))
    ∙ digit_so (n % 10) (last_digit n)

-- digits before a text
put_digit : (n : ℕ) (behind : Text) → is_digits_and_word behind ≡ true → is_digits_and_word (digit_glyph false (n % 10) ∷ behind) ≡ true
put_digit n behind is = either (digit_glyph false (n % 10) == 95) (is_ascii_digit (digit_glyph false (n % 10))) (is_digits_and_word behind) (glyph_so n) is
  where
    either : (b p q : Bool) → p ≡ true → q ≡ true → (b || (p && q)) ≡ true
    either true p q one two = refl
    either false p q one two = and_from p q one two

more_digits : (k n : ℕ) (digits word : Text) → is_numbered_word (digits ++ 95 ∷ word) ≡ true → is_digits_and_word (digits ++ 95 ∷ word) ≡ true →
    is_numbered_word (digits_onto k 10 false n digits ++ 95 ∷ word) ≡ true
more_digits zero n digits word run is = run
more_digits (suc k) n digits word run is = by (n / 10 == 0) (more_digits k (n / 10) next word so (put_digit n (digits ++ 95 ∷ word) is))
  where
    next : Text
    next = digit_glyph false (n % 10) ∷ digits

    so : is_numbered_word (digit_glyph false (n % 10) ∷ (digits ++ 95 ∷ word)) ≡ true
    so = and_from (is_ascii_digit (digit_glyph false (n % 10))) (is_digits_and_word (digits ++ 95 ∷ word)) (glyph_so n) is

    by : (b : Bool) → is_numbered_word (digits_onto k 10 false (n / 10) next ++ 95 ∷ word) ≡ true →
        is_numbered_word ((if b then next else digits_onto k 10 false (n / 10) next) ++ 95 ∷ word) ≡ true
    by true more = so
    by false more = more

some_digits : (k n : ℕ) (word : Text) → is_numbered_word (digits_onto (suc k) 10 false n [] ++ 95 ∷ word) ≡ true
some_digits k n word = by (n / 10 == 0)
  where
    next : Text
    next = digit_glyph false (n % 10) ∷ []

    so : is_numbered_word (next ++ 95 ∷ word) ≡ true
    so = and_from (is_ascii_digit (digit_glyph false (n % 10))) true (glyph_so n) refl

    by : (b : Bool) → is_numbered_word ((if b then next else digits_onto k 10 false (n / 10) next) ++ 95 ∷ word) ≡ true
    by true = so
    by false = more_digits k (n / 10) next word so (put_digit n (95 ∷ word) refl)

flag_named : (k : NumberedWord) → is_flag_name (flag_name k) ≡ true
unfolding digits
flag_named k = some_digits 63 k.number k.word

-- ---- the locals that are flags

-- the names of those locals that are flags
abbrev named : List CLocal → List Text
named locals = filter is_flag_name (map (λ (local : CLocal). local.name) locals)

named_both : (xs ys : List CLocal) → named (xs ++ ys) ≡ named xs ++ named ys
named_both xs ys =
    ap (filter is_flag_name) (map-append (λ (local : CLocal). local.name) xs ys)
    ∙ filter-append is_flag_name (map (λ (local : CLocal). local.name) xs) (map (λ (local : CLocal). local.name) ys)

-- the flag that a rule asks for
abbrev pub asked_by : ActivityView → Transition → List Text
asked_by view rule = if is_flagged rule.condition then flag_name (node_word view rule.node) ∷ [] else []

module _ (view : ActivityView) where
  flag_is : (rule : Transition) → named (flag_local view rule) ≡ asked_by view rule
  flag_is rule = by (is_flagged rule.condition)
    where
      by : (b : Bool) → named (if b then scalar_local OfBool (flag_name (node_word view rule.node)) ∷ [] else [])
          ≡ (if b then flag_name (node_word view rule.node) ∷ [] else [])
      by true = ap (λ (b : Bool). cond b (flag_name (node_word view rule.node) ∷ []) []) (flag_named (node_word view rule.node))
      by false = refl

  flags_are : (rules : List Transition) → named (joined (map (flag_local view) rules)) ≡ joined (map (asked_by view) rules)
  flags_are [] = refl
  flags_are (rule ∷ rules) =
      named_both (flag_local view rule) (joined (map (flag_local view) rules)) ∙ (λ i. flag_is rule i ++ flags_are rules i)

  mark_none : (change : Change) → named (mark_local view change) ≡ []
  mark_none (SetsMark n) = refl
  mark_none (SetsFlag n) = refl
  mark_none (SetsCounter slot) = refl
  mark_none (ClearsCounter k) = refl
  mark_none (ClearsBoth k) = refl
  mark_none (EndsWhen start surface depth) = refl
  mark_none Finishes = refl

  changes_none : (changes : List Change) → named (joined (map (mark_local view) changes)) ≡ []
  changes_none [] = refl
  changes_none (change ∷ changes) =
      named_both (mark_local view change) (joined (map (mark_local view) changes)) ∙ (λ i. mark_none change i ++ changes_none changes i)

  marks_none : (rules : List Transition) → named (joined (map (mark_locals view) rules)) ≡ []
  marks_none [] = refl
  marks_none (rule ∷ rules) =
      named_both (mark_locals view rule) (joined (map (mark_locals view) rules)) ∙ (λ i. changes_none rule.on_true i ++ marks_none rules i)

resteds_none : (sizes : Sizes) (ks : List ℕ) → named (map (rested_local sizes) ks) ≡ []
resteds_none sizes [] = refl
resteds_none sizes (k ∷ ks) = resteds_none sizes ks

copies_none : (a : Activity) (ks : List ℕ) → named (map (copy_local a) ks) ≡ []
copies_none a [] = refl
copies_none a (k ∷ ks) = copies_none a ks

given_none : (k : NumberedWord) (result : Option ScalarType) → named (given_local k result) ≡ []
given_none k (Some s) = refl
given_none k None = refl

runs_none : (a : Activity) (runs : List RunAt) → named (joined (map (run_locals a) runs)) ≡ []
runs_none a [] = refl
runs_none a (run ∷ runs) =
    named_both (run_locals a run) (joined (map (run_locals a) runs))
    ∙ (λ i. given_none (word_of_run a.earlier run) (option_and_then (λ (unit : UnitDef). unit.result) (slice_get a.earlier run.unit)) i ++ runs_none a runs i)

ended_none : (ends : Bool) → named (ended_local ends) ≡ []
ended_none true = refl
ended_none false = refl

-- the flags of an activity's function are those that the rules of first nodes ask for
pub locals_are : (a : Activity) → named (activity_locals a) ≡ joined (map (asked_by (activity_view a)) (first_rules a))
locals_are a =
    let view : ActivityView = activity_view a in
    let rested : List CLocal = map (rested_local a.sizes) (counters_read a) in
    let flags : List CLocal = joined (map (flag_local view) (first_rules a)) in
    let marks : List CLocal = joined (map (mark_locals view) (rules_at a)) in
    let copies : List CLocal = map (copy_local a) (copied_in a) in
    let results : List CLocal = joined (map (run_locals a) (runs_in_body a)) in
    let ends : Bool = some_ends a.earlier (runs_in_body a) in
    let runs : List CLocal = ended_local ends ++ results in
    named_both rested (flags ++ (marks ++ (copies ++ runs)))
    ∙ (λ i. resteds_none a.sizes (counters_read a) i ++ named_both flags (marks ++ (copies ++ runs)) i)
    ∙ (λ i. flags_are view (first_rules a) i ++ named_both marks (copies ++ runs) i)
    ∙ (λ i. joined (map (asked_by view) (first_rules a)) ++ (marks_none view (rules_at a) i ++ named_both copies runs i))
    ∙ (λ i. joined (map (asked_by view) (first_rules a)) ++ (copies_none a (copied_in a) i ++ named_both (ended_local ends) results i))
    ∙ (λ i. joined (map (asked_by view) (first_rules a)) ++ (ended_none ends i ++ runs_none a (runs_in_body a) i))
    ∙ append-nil (joined (map (asked_by view) (first_rules a)))

-- they are as many as rules that ask for a flag
pub asked_many : (view : ActivityView) (rules : List Transition) →
    length (joined (map (asked_by view) rules)) ≡ length (filter (λ (rule : Transition). is_flagged rule.condition) rules)
asked_many view [] = refl
asked_many view (rule ∷ rules) = by (is_flagged rule.condition) (asked_many view rules)
  where
    later : List Text
    later = joined (map (asked_by view) rules)

    kept : List Transition
    kept = filter (λ (rule : Transition). is_flagged rule.condition) rules

    by : (b : Bool) → length later ≡ length kept →
        length ((if b then flag_name (node_word view rule.node) ∷ [] else []) ++ later) ≡ length (cond b (rule ∷ kept) kept)
    by true same = ap suc same
    by false same = same

-- ---- what guards read

-- what reads no flag
abbrev Plain : CExpr → Type 0
Plain e = Fine IsNoFlag (places_in e)

two_plain : (op : Op) (a b : CExpr) → Plain a → Plain b → Plain (c_two op a b)
two_plain = two-fine IsNoFlag NoFlag variables begins

module _ (view : ActivityView) where
  counter_plain : (k : ℕ) → Plain (c_read (counter_place k))
  counter_plain k =
      same-fine IsNoFlag (places_in (c_read (counter_place k))) (own_counter (counter_name k) ∷ []) (read-names (counter_place k) ∙ counter-names k)
      (refl, tt)

  value_plain : (k v : ℕ) → Plain (counter_value view.sizes k v)
  value_plain k v = literal-fine IsNoFlag NoFlag variables begins (counter_type view.sizes k) _

  truth_plain : (b : Bool) → Plain (c_truth b)
  truth_plain true = literal-fine IsNoFlag NoFlag variables begins _ _
  truth_plain false = literal-fine IsNoFlag NoFlag variables begins _ _

  rested_plain : (k : ℕ) → Plain (c_read (rested_place k))
  rested_plain k = local-read (rested_name k) refl

  -- many tests

  abbrev ArePlain : List CExpr → Type 0
  ArePlain [] = Unit {0}
  ArePlain (e ∷ rest) = Plain e × ArePlain rest

  pairs_plain : (op : Op) (tests : List CExpr) → ArePlain tests → ArePlain (in_pairs op tests)
  pairs_plain op [] all = tt
  pairs_plain op (a ∷ []) all = all
  pairs_plain op (a ∷ b ∷ rest) all = (two_plain op a b all.0 all.1.0, pairs_plain op rest all.1.1)

  tree_plain : (none : CExpr) → Plain none → (op : Op) (fuel : ℕ) (tests : List CExpr) → ArePlain tests → Plain (in_tree none op fuel tests)
  tree_plain none is op fuel [] all = is
  tree_plain none is op fuel (a ∷ []) all = all.0
  tree_plain none is op zero (a ∷ b ∷ rest) all = all.0
  tree_plain none is op (suc fuel) (a ∷ b ∷ rest) all =
      tree_plain none is op fuel (in_pairs op (a ∷ b ∷ rest)) (pairs_plain op (a ∷ b ∷ rest) all)

  -- guards

  slots_plain : (slots : List Slot) → ArePlain (map (at_slot view) slots)
  slots_plain [] = tt
  slots_plain (slot ∷ rest) = (
    two_plain Eq (c_read (counter_place slot.counter)) (counter_value view.sizes slot.counter slot.value) (counter_plain slot.counter)
        (value_plain slot.counter slot.value),
    slots_plain rest,
  )

  since_plain : (k least : ℕ) → Plain (rested_since view k least)
  since_plain k least = by (nat_eq least 1)
    where
      by : (one : Bool) → Plain (rested_from view k least one)
      by true = two_plain Ne (c_read (rested_place k)) (counter_value view.sizes k 0) (rested_plain k) (value_plain k 0)
      by false = two_plain Ge (c_read (rested_place k)) (counter_value view.sizes k least) (rested_plain k) (value_plain k least)

  at_plain : (slot : Slot) → Plain (rested_at view slot)
  at_plain slot = by (is_greatest view.sizes slot.counter slot.value)
    where
      by : (last : Bool) → Plain (rested_by view slot last)
      by true = since_plain slot.counter slot.value
      by false =
          two_plain Eq (c_read (rested_place slot.counter)) (counter_value view.sizes slot.counter slot.value) (rested_plain slot.counter)
          (value_plain slot.counter slot.value)

  within_plain : (k least most : ℕ) → Plain (rested_within view k least most)
  within_plain k least most = by (is_greatest view.sizes k most)
    where
      by : (top : Bool) → Plain (rested_to view k least most top)
      by true = since_plain k least
      by false =
          let last = hidden (counter_type view.sizes k) (counter_value view.sizes k most) in
          two_plain And (c_two Ge (c_read (rested_place k)) (counter_value view.sizes k least)) (c_two Le (c_read (rested_place k)) last)
          (two_plain Ge (c_read (rested_place k)) (counter_value view.sizes k least) (rested_plain k) (value_plain k least))
          (two_plain Le (c_read (rested_place k)) last (rested_plain k)
          (hidden-fine IsNoFlag NoFlag variables begins (counter_type view.sizes k) (counter_value view.sizes k most) (value_plain k most)))

  in_plain : (slots : List Slot) → Plain (rested_in view slots)
  in_plain [] = truth_plain false
  in_plain (slot ∷ []) = at_plain slot
  in_plain (slot ∷ more ∷ rest) = within_plain slot.counter slot.value (last_value more.value rest)

  ends_plain : (needed : Needed) → Plain (ends_test view needed)
  ends_plain needed = by needed.all
    where
      tests : List CExpr
      tests = map (at_slot view) needed.slots

      by : (b : Bool) → Plain (if b then all_tests tests else some_test tests)
      by true = tree_plain (c_truth true) (truth_plain true) And (length tests) tests (slots_plain needed.slots)
      by false = tree_plain (c_truth false) (truth_plain false) Or (length tests) tests (slots_plain needed.slots)

  mark_plain : (n : Node) → Plain (c_read (mark_place (node_word view n)))
  mark_plain n = local-read (mark_name (node_word view n)) refl

  aged_plain : (age : Age) (ends : CExpr) → Plain ends → Plain (aged_test view age ends)
  aged_plain (IsNew n) ends all = two_plain And (c_read (mark_place (node_word view n))) ends (mark_plain n) all
  aged_plain (IsOld n) ends all =
      two_plain And (c_not (c_read (mark_place (node_word view n)))) ends
      (not-fine IsNoFlag NoFlag variables begins (c_read (mark_place (node_word view n))) (mark_plain n)) all
  aged_plain IsAny ends all = all

  pub flag_read : (k : NumberedWord) → flags_read (c_read (flag_place k)) ≡ flag_name k ∷ []
  flag_read k =
      ap (λ (places : List CPath). filter is_flag_name (map (λ (path : CPath). path.name) places))
      (read-names (flag_place k) ∙ place-names false (flag_name k) [])
      ∙ ap (λ (b : Bool). cond b (flag_name k ∷ []) []) (flag_named k)

  -- a guard reads the flag that its rule asks for, and no other
  pub guard_reads : (n : Node) (condition : Condition) →
      flags_read (guard_of view n condition) ≡ (if is_flagged condition then flag_name (node_word view n) ∷ [] else [])
  guard_reads n Flagged = flag_read (node_word view n)
  guard_reads n (Rested slot) = none-read (rested_at view slot) (at_plain slot)
  guard_reads n (RestedIn slots) = none-read (rested_in view slots) (in_plain slots)
  guard_reads n (Ended age needed) =
      none-read (aged_test view age (ends_test view needed)) (aged_plain age (ends_test view needed) (ends_plain needed))
