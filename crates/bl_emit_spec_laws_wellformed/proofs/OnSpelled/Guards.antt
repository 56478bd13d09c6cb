-- What a block asks, and what changes in it, fits a depth.
use Rattle.std.proofs.Common.{◌≡◌, ℕ, zero, suc, ◌+◌, ◌*◌, ◌^◌, ◌<◌, ◌≤◌, pos, Bool, true, false, ◌&&◌}
use Rattle.std.proofs.Common.{List, [], ◌∷◌, map, length, Some, refl, sym, ap, subst, arith, codes}
use Rattle.std.proofs.lemmas.Bool.{eqb-true}
use Rattle.std.proofs.lemmas.Bool.Decides.{nat_tests}
use Rattle.std.specs.Char.{is_ascii_digit}
use Rattle.std.specs.List.{list_all}
use Rattle.std.specs.Prelude.{nat_eq, nat_le, nat_lt, slice_get, unwrap_or, if◌then◌else◌}
use Rattle.std.proofs.lemmas.Bool.{and_from}
use Rattle.bl_tree.proofs.Basics.{all_append, and_first, and_second}
use Rattle.bl_tree.specs.declared.c.CExpr.{CExpr}
use Rattle.bl_tree.specs.declared.c.CStmt.{CStmt}
use Rattle.bl_tree.specs.declared.scalar.Op.{Op}
use Rattle.bl_tree.specs.declared.scalar.Op.TheVariants.{And, Eq, Ge, Le, Ne, Or}
use Rattle.bl_tree.specs.declared.scalar.Scalar.{Scalar as ScalarType}
use Rattle.bl_tree.specs.declared.scalar.Scalar.TheVariants.{Nat}
use Rattle.bl_tree.specs.declared.scalar.Width.TheVariants.{W8, W16, W32}
use Rattle.bl_tree.specs.Reduce.{all_of}
use Rattle.bl_tree.specs.Scalar.{in_range}
use Rattle.bl_ctext.specs.Names.{is_among, is_name}
use Rattle.bl_ctext.specs.Token.{is_word_byte}
use Rattle.bl_ctext.specs.Spellable.{is_c_operator, is_c_scalar, is_literal}
use Rattle.bl_ctext.specs.inner.Fits.{expr_fits, place_fits, step_fits, stmt_fits, stmts_fit}
use Rattle.bl_ctext.proofs.Fitting.{expr_fits-more, literal-fits, place-fits, read-fits, set-fits, step-fits, two-fits}
use Rattle.bl_graph_nodes.specs.Nodes.{Node}
use Rattle.bl_machine.specs.declared.slots.Slot.{Slot}
use Rattle.bl_machine_pass.specs.Transitions.{Age, Change, Condition, Needed}
use Rattle.bl_machine_pass.specs.Transitions.{ClearsBoth, ClearsCounter, Ended, EndsWhen, Finishes, Flagged, IsAny}
use Rattle.bl_machine_pass.specs.Transitions.{IsNew, IsOld, Rested, RestedIn, SetsCounter, SetsFlag, SetsMark}
use Rattle.bl_emit_acts.specs.Acts.{c_set}
use Rattle.bl_emit_acts.specs.Expressions.{hidden}
use Rattle.bl_emit_acts.specs.Trees.{c_not, c_read, c_step, c_two, nowhere}
use Rattle.bl_emit_acts_laws_wellformed.proofs.OnSpelled.Literals.{literal-stands}
use Rattle.bl_emit_acts_laws_wellformed.proofs.OnSpelled.Names.{numbered-name, worded-name}
use Rattle.bl_emit_acts_laws_wellformed.proofs.OnSpelled.Operators.{hidden-fits}
use Rattle.bl_emit_acts_laws_wellformed.proofs.OnSpelled.Shapes.{not-fits}
use Rattle.bl_emit_functions.specs.Trees.{c_if, c_truth}
use Rattle.bl_emit_functions_laws_wellformed.proofs.OnSpelled.Acts.{one-fits}
use Rattle.bl_emit_functions_laws_wellformed.proofs.OnSpelled.Shapes.{else-fits}
use Rattle.bl_emit_spec.specs.Blocks.{ActivityView, Sizes, aged_test, all_tests, at_slot, change_code, changes_code, counter_type, counter_value, ends_test}
use Rattle.bl_emit_spec.specs.Blocks.{flagged_now, forgotten, freed, guard_of, in_pairs, in_tree, is_greatest, last_value, node_word, rested_at, rested_between}
use Rattle.bl_emit_spec.specs.Blocks.{rested_by, rested_from, rested_in, rested_since, rested_to, rested_within, some_test, stmt_where, type_for}
use Rattle.bl_emit_spec.specs.Names.{NumberedWord, numbered_word, counter_name, counter_place, ended_name}
use Rattle.bl_emit_spec.specs.Names.{ended_place, flag_name, flag_place, given_name, given_place}
use Rattle.bl_emit_spec.specs.Names.{mark_name, mark_place, over_place, rested_name, rested_place, result_place}
use Rattle.bl_emit_spec_laws_wellformed.specs.Spelled.{change_fits, condition_fits, slot_fits, slots_fit}
use Rattle.bl_emit_spec_laws_wellformed.proofs.OnNames.Names.{low}
use Rattle.bl_emit_functions_laws_wellformed.proofs.OnSpelled.Statements.{truth-fits}

-- ---- names

pub frame-letter : is_name (codes "f") ≡ true
unfolding is_name is_among
frame-letter = refl

pub end-letter : is_name (codes "e") ≡ true
unfolding is_name is_among
end-letter = refl

pub ended-word : is_name ended_name ≡ true
unfolding is_name is_among
ended-word = refl

pub result-letter : is_name (codes "r") ≡ true
unfolding is_name is_among
result-letter = refl

-- a statement that is left out fits too
pub where-fits : (d : ℕ) (test : Bool) (s : CStmt) → stmt_fits d s ≡ true → stmts_fit d (stmt_where test s) ≡ true
where-fits d true s fit = one-fits d s fit
where-fits d false s fit = refl

-- the number is small, and the word has letters, digits and `_` alone
pub record Spells (k : NumberedWord) : Type 0 where
  pub small : k.number < 2 ^ 64
  pub word : all_of (map is_word_byte k.word) ≡ true

-- a letter, such a number and word
pub spelled-name : (b : ℕ) (k : NumberedWord) → is_word_byte b ≡ true → is_ascii_digit b ≡ false → Spells k → is_name (b ∷ numbered_word k) ≡ true
spelled-name b k h i its = worded-name b k.number k.word h i its.word its.small

-- ---- places

pub counter-fits : (d k : ℕ) → 1 ≤ d → k < 2 ^ 64 → place_fits d (counter_place k) ≡ true
counter-fits d k some small =
    place-fits d true (codes "f") (c_step (counter_name k) ∷ []) some frame-letter
    (and_from (step_fits d (c_step (counter_name k))) true (step-fits d (counter_name k) (numbered-name 99 k refl refl small)) refl)

pub rested-fits : (d k : ℕ) → 1 ≤ d → k < 2 ^ 64 → place_fits d (rested_place k) ≡ true
rested-fits d k some small = place-fits d false (rested_name k) [] some (numbered-name 119 k refl refl small) refl

pub flag-fits : (d : ℕ) (k : NumberedWord) → 1 ≤ d → Spells k → place_fits d (flag_place k) ≡ true
flag-fits d k some its = place-fits d false (flag_name k) [] some (spelled-name 103 k refl refl its) refl

pub mark-fits : (d : ℕ) (k : NumberedWord) → 1 ≤ d → Spells k → place_fits d (mark_place k) ≡ true
mark-fits d k some its = place-fits d false (mark_name k) [] some (spelled-name 117 k refl refl its) refl

pub ended-fits : (d : ℕ) → 1 ≤ d → place_fits d ended_place ≡ true
ended-fits d some = place-fits d false ended_name [] some ended-word refl

pub given-fits : (d : ℕ) (k : NumberedWord) → 1 ≤ d → Spells k → place_fits d (given_place k) ≡ true
given-fits d k some small = place-fits d false (given_name k) [] some (spelled-name 114 k refl refl small) refl

pub over-fits : (d : ℕ) → 1 ≤ d → place_fits d over_place ≡ true
over-fits d some = place-fits d true (codes "e") [] some end-letter refl

pub result-fits : (d : ℕ) → 1 ≤ d → place_fits d result_place ≡ true
result-fits d some = place-fits d true (codes "r") [] some result-letter refl

-- ---- values

-- what holds of the three types that a counter may have
pub by_type : (P : ScalarType → Type 0) → P (Nat W8) → P (Nat W16) → P (Nat W32) → (n : ℕ) → P (type_for n)
by_type P one two three n = by (nat_le n 255) (nat_le n 65535)
  where
    by : (a b : Bool) → P (if a then Nat W8 else if b then Nat W16 else Nat W32)
    by true b = one
    by false true = two
    by false false = three

literal_type : (n v : ℕ) → in_range (type_for n) (pos v) ≡ true → is_literal (type_for n) (pos v) ≡ true
literal_type n v =
    by_type (λ s. in_range s (pos v) ≡ true → is_literal s (pos v) ≡ true) (literal-stands (Nat W8) (pos v)) (literal-stands (Nat W16) (pos v))
    (literal-stands (Nat W32) (pos v)) n

zero_type : (n : ℕ) → is_literal (type_for n) (pos 0) ≡ true
zero_type n = by_type (λ s. is_literal s (pos 0) ≡ true) refl refl refl n

pub type-spelled : (sizes : Sizes) (k : ℕ) → is_c_scalar (counter_type sizes k) ≡ true
type-spelled sizes k = by_type (λ s. is_c_scalar s ≡ true) refl refl refl (unwrap_or (slice_get sizes k) 0)

value-fits : (d : ℕ) (sizes : Sizes) (k v : ℕ) → 2 ≤ d → in_range (counter_type sizes k) (pos v) ≡ true →
    expr_fits d (counter_value sizes k v) ≡ true
value-fits d sizes k v some h =
    literal-fits d nowhere (counter_type sizes k) (pos v) some (literal_type (unwrap_or (slice_get sizes k) 0) v h)

pub nothing-fits : (d : ℕ) (sizes : Sizes) (k : ℕ) → 2 ≤ d → expr_fits d (counter_value sizes k 0) ≡ true
nothing-fits d sizes k some = literal-fits d nowhere (counter_type sizes k) (pos 0) some (zero_type (unwrap_or (slice_get sizes k) 0))

-- ---- comparisons of counters

slot_low : (sizes : Sizes) (slot : Slot) → slot_fits sizes slot ≡ true → slot.counter < 2 ^ 64
slot_low sizes slot h = low slot.counter (and_first (nat_lt slot.counter (2 ^ 64)) _ h)

slot_value : (sizes : Sizes) (slot : Slot) → slot_fits sizes slot ≡ true → in_range (counter_type sizes slot.counter) (pos slot.value) ≡ true
slot_value sizes slot h = and_second (nat_lt slot.counter (2 ^ 64)) _ h

slot-at : (view : ActivityView) (slot : Slot) → slot_fits view.sizes slot ≡ true → expr_fits 3 (at_slot view slot) ≡ true
slot-at view slot h =
    two-fits 2 3 nowhere Eq (c_read (counter_place slot.counter)) (counter_value view.sizes slot.counter slot.value) (omega arith) refl
    (read-fits 2 nowhere (counter_place slot.counter) (counter-fits 2 slot.counter (omega arith) (slot_low view.sizes slot h)))
    (value-fits 2 view.sizes slot.counter slot.value (omega arith) (slot_value view.sizes slot h))

since-fits : (view : ActivityView) (k least : ℕ) → k < 2 ^ 64 → in_range (counter_type view.sizes k) (pos least) ≡ true →
    expr_fits 3 (rested_since view k least) ≡ true
since-fits view k least small one = by (nat_eq least 1)
  where
    read : expr_fits 2 (c_read (rested_place k)) ≡ true
    read = read-fits 2 nowhere (rested_place k) (rested-fits 2 k (omega arith) small)

    by : (first : Bool) → expr_fits 3 (rested_from view k least first) ≡ true
    by true =
        two-fits 2 3 nowhere Ne (c_read (rested_place k)) (counter_value view.sizes k 0) (omega arith) refl read
        (nothing-fits 2 view.sizes k (omega arith))
    by false =
        two-fits 2 3 nowhere Ge (c_read (rested_place k)) (counter_value view.sizes k least) (omega arith) refl read
        (value-fits 2 view.sizes k least (omega arith) one)

slot-rested : (view : ActivityView) (slot : Slot) → slot_fits view.sizes slot ≡ true → expr_fits 3 (rested_at view slot) ≡ true
slot-rested view slot h = by (is_greatest view.sizes slot.counter slot.value)
  where
    read : expr_fits 2 (c_read (rested_place slot.counter)) ≡ true
    read = read-fits 2 nowhere (rested_place slot.counter) (rested-fits 2 slot.counter (omega arith) (slot_low view.sizes slot h))

    by : (last : Bool) → expr_fits 3 (rested_by view slot last) ≡ true
    by true = since-fits view slot.counter slot.value (slot_low view.sizes slot h) (slot_value view.sizes slot h)
    by false =
        two-fits 2 3 nowhere Eq (c_read (rested_place slot.counter)) (counter_value view.sizes slot.counter slot.value) (omega arith) refl read
        (value-fits 2 view.sizes slot.counter slot.value (omega arith) (slot_value view.sizes slot h))

between-fits : (view : ActivityView) (k least greatest : ℕ) → k < 2 ^ 64 → in_range (counter_type view.sizes k) (pos least) ≡ true →
    in_range (counter_type view.sizes k) (pos greatest) ≡ true → expr_fits 5 (rested_between view k least greatest) ≡ true
between-fits view k least greatest small one other =
    let s = counter_type view.sizes k in
    let last = hidden s (counter_value view.sizes k greatest) in
    let read = read-fits 3 nowhere (rested_place k) (rested-fits 3 k (omega arith) small) in
    two-fits 4 5 nowhere And (c_two Ge (c_read (rested_place k)) (counter_value view.sizes k least)) (c_two Le (c_read (rested_place k)) last)
    (omega arith) refl
    (two-fits 3 4 nowhere Ge (c_read (rested_place k)) (counter_value view.sizes k least) (omega arith) refl read
    (value-fits 3 view.sizes k least (omega arith) one))
    (two-fits 3 4 nowhere Le (c_read (rested_place k)) last (omega arith) refl read
    (hidden-fits 2 4 (omega arith) (omega arith) s (counter_value view.sizes k greatest) (value-fits 2 view.sizes k greatest (omega arith) other)))

within-fits : (view : ActivityView) (k least greatest : ℕ) → k < 2 ^ 64 → in_range (counter_type view.sizes k) (pos least) ≡ true →
    in_range (counter_type view.sizes k) (pos greatest) ≡ true → expr_fits 5 (rested_within view k least greatest) ≡ true
within-fits view k least greatest small one other = by (is_greatest view.sizes k greatest)
  where
    by : (top : Bool) → expr_fits 5 (rested_to view k least greatest top) ≡ true
    by true = expr_fits-more 3 5 (rested_since view k least) (omega arith) (since-fits view k least small one)
    by false = between-fits view k least greatest small one other

-- ---- many tests

abbrev tests_fit : ℕ → List CExpr → Bool
tests_fit d tests = list_all (expr_fits d) tests

pairs_fit : (d : ℕ) (op : Op) (tests : List CExpr) → is_c_operator op ≡ true → tests_fit d tests ≡ true →
    tests_fit (d + 1) (in_pairs op tests) ≡ true
pairs_fit d op [] sign all = refl
pairs_fit d op (a ∷ []) sign all =
    and_from (expr_fits (d + 1) a) true (expr_fits-more d (d + 1) a (omega arith) (and_first (expr_fits d a) true all)) refl
pairs_fit d op (a ∷ b ∷ rest) sign all =
    let more = and_second (expr_fits d a) (expr_fits d b && tests_fit d rest) all in
    and_from (expr_fits (d + 1) (c_two op a b)) (tests_fit (d + 1) (in_pairs op rest))
    (two-fits d (d + 1) nowhere op a b (omega arith) sign (and_first (expr_fits d a) (expr_fits d b && tests_fit d rest) all)
    (and_first (expr_fits d b) (tests_fit d rest) more))
    (pairs_fit d op rest sign (and_second (expr_fits d b) (tests_fit d rest) more))

pairs_length : (op : Op) (tests : List CExpr) → 2 * length (in_pairs op tests) ≤ length tests + 1
pairs_length op [] = omega arith
pairs_length op (a ∷ []) = omega arith
pairs_length op (a ∷ b ∷ rest) = let few : 2 * length (in_pairs op rest) ≤ length rest + 1 = pairs_length op rest in omega (arith, few)

-- 1, doubled so often
abbrev doubled : ℕ → ℕ
doubled zero = 1
doubled (suc n) = doubled n + doubled n

tree_fits : (n fuel d : ℕ) (none : CExpr) (op : Op) (tests : List CExpr) → is_c_operator op ≡ true → length tests ≤ doubled n →
    tests_fit d tests ≡ true → expr_fits (d + n) none ≡ true → expr_fits (d + n) (in_tree none op fuel tests) ≡ true
tree_fits n fuel d none op [] sign few all empty = empty
tree_fits n fuel d none op (a ∷ []) sign few all empty = expr_fits-more d (d + n) a (omega arith) (and_first (expr_fits d a) true all)
tree_fits n zero d none op (a ∷ b ∷ rest) sign few all empty =
    expr_fits-more d (d + n) a (omega arith) (and_first (expr_fits d a) (expr_fits d b && tests_fit d rest) all)
tree_fits zero (suc fuel) d none op (a ∷ b ∷ rest) sign few all empty = absurd (omega (arith, few))
tree_fits (suc n) (suc fuel) d none op (a ∷ b ∷ rest) sign few all empty =
    let half : 2 * length (in_pairs op (a ∷ b ∷ rest)) ≤ length (a ∷ b ∷ rest) + 1 = pairs_length op (a ∷ b ∷ rest) in
    let less : length (in_pairs op (a ∷ b ∷ rest)) ≤ doubled n = omega (arith, half, few) in
    let same : (d + 1) + n ≡ d + suc n = omega arith in
    subst (λ d. expr_fits d (in_tree none op fuel (in_pairs op (a ∷ b ∷ rest))) ≡ true) same
    (tree_fits n fuel (d + 1) none op (in_pairs op (a ∷ b ∷ rest)) sign less (pairs_fit d op (a ∷ b ∷ rest) sign all)
    (subst (λ d. expr_fits d none ≡ true) (sym same) empty))

ends_fit : (view : ActivityView) (slots : List Slot) → list_all (slot_fits view.sizes) slots ≡ true → tests_fit 3 (map (at_slot view) slots) ≡ true
ends_fit view [] all = refl
ends_fit view (slot ∷ slots) all =
    and_from (expr_fits 3 (at_slot view slot)) (tests_fit 3 (map (at_slot view) slots))
    (slot-at view slot (and_first (slot_fits view.sizes slot) (list_all (slot_fits view.sizes) slots) all))
    (ends_fit view slots (and_second (slot_fits view.sizes slot) (list_all (slot_fits view.sizes) slots) all))

tests_length : (view : ActivityView) (slots : List Slot) → length (map (at_slot view) slots) ≡ length slots
tests_length view [] = refl
tests_length view (slot ∷ slots) = ap suc (tests_length view slots)

few_of : (n : ℕ) → nat_le n (2 ^ 64) ≡ true → n ≤ doubled 64
few_of n h = let le : n ≤ 2 ^ 64 = grind (arith, nat_tests) in le

ends-test-fits : (view : ActivityView) (needed : Needed) → list_all (slot_fits view.sizes) needed.slots ≡ true →
    nat_le (length needed.slots) (2 ^ 64) ≡ true →
    expr_fits 67 (ends_test view needed) ≡ true
ends-test-fits view needed all few = by needed.all
  where
    by : (b : Bool) → expr_fits 67 (if b then all_tests (map (at_slot view) needed.slots) else some_test (map (at_slot view) needed.slots)) ≡ true
    by true =
        tree_fits 64 (length (map (at_slot view) needed.slots)) 3 (c_truth true) And (map (at_slot view) needed.slots) refl
        (subst (λ n. n ≤ doubled 64) (sym (tests_length view needed.slots)) (few_of (length needed.slots) few)) (ends_fit view needed.slots all)
        (truth-fits 67 true (omega arith))
    by false =
        tree_fits 64 (length (map (at_slot view) needed.slots)) 3 (c_truth false) Or (map (at_slot view) needed.slots) refl
        (subst (λ n. n ≤ doubled 64) (sym (tests_length view needed.slots)) (few_of (length needed.slots) few)) (ends_fit view needed.slots all)
        (truth-fits 67 false (omega arith))

-- ---- guards

last_fits : (sizes : Sizes) (k v : ℕ) (slots : List Slot) → in_range (counter_type sizes k) (pos v) ≡ true →
    list_all (slot_fits sizes) slots ≡ true →
    list_all (λ (other : Slot). nat_eq other.counter k) slots ≡ true → in_range (counter_type sizes k) (pos (last_value v slots)) ≡ true
last_fits sizes k v [] own all same = own
last_fits sizes k v (slot ∷ rest) own all same =
    let is : slot.counter ≡ k = eqb-true slot.counter k
    (and_first (nat_eq slot.counter k) (list_all (λ (other : Slot). nat_eq other.counter k) rest) same) in
    last_fits sizes k slot.value rest
    (subst (λ k. in_range (counter_type sizes k) (pos slot.value) ≡ true) is
    (slot_value sizes slot (and_first (slot_fits sizes slot) (list_all (slot_fits sizes) rest) all)))
    (and_second (slot_fits sizes slot) (list_all (slot_fits sizes) rest) all)
    (and_second (nat_eq slot.counter k) (list_all (λ (other : Slot). nat_eq other.counter k) rest) same)

in-fits : (view : ActivityView) (slots : List Slot) → slots_fit view.sizes slots ≡ true → expr_fits 5 (rested_in view slots) ≡ true
in-fits view [] h = truth-fits 5 false (omega arith)
in-fits view (slot ∷ []) h =
    let all = and_first (list_all (slot_fits view.sizes) (slot ∷ [])) true h in
    expr_fits-more 3 5 (rested_at view slot) (omega arith) (slot-rested view slot (and_first (slot_fits view.sizes slot) true all))
in-fits view (slot ∷ more ∷ rest) h =
    let all : list_all (slot_fits view.sizes) (slot ∷ more ∷ rest) ≡ true =
    and_first (list_all (slot_fits view.sizes) (slot ∷ more ∷ rest)) _ h in
    let same : list_all (λ (other : Slot). nat_eq other.counter slot.counter) (more ∷ rest) ≡ true =
    and_second (list_all (slot_fits view.sizes) (slot ∷ more ∷ rest)) _ h in
    let first : slot_fits view.sizes slot ≡ true = and_first (slot_fits view.sizes slot) (list_all (slot_fits view.sizes) (more ∷ rest)) all in
    let others : list_all (slot_fits view.sizes) (more ∷ rest) ≡ true =
    and_second (slot_fits view.sizes slot) (list_all (slot_fits view.sizes) (more ∷ rest)) all in
    within-fits view slot.counter slot.value (last_value more.value rest) (slot_low view.sizes slot first) (slot_value view.sizes slot first)
    (last_fits view.sizes slot.counter slot.value (more ∷ rest) (slot_value view.sizes slot first) others same)

module _ (view : ActivityView) (spells : (n : Node) → Spells (node_word view n)) where
  aged-fits : (age : Age) (ends : CExpr) → expr_fits 67 ends ≡ true → expr_fits 68 (aged_test view age ends) ≡ true
  aged-fits (IsNew n) ends fit =
      two-fits 67 68 nowhere And (c_read (mark_place (node_word view n))) ends (omega arith) refl
      (read-fits 67 nowhere (mark_place (node_word view n)) (mark-fits 67 (node_word view n) (omega arith) (spells n))) fit
  aged-fits (IsOld n) ends fit =
      two-fits 67 68 nowhere And (c_not (c_read (mark_place (node_word view n)))) ends (omega arith) refl
      (not-fits 66 67 (c_read (mark_place (node_word view n))) (omega arith)
      (read-fits 66 nowhere (mark_place (node_word view n)) (mark-fits 66 (node_word view n) (omega arith) (spells n)))) fit
  aged-fits IsAny ends fit = expr_fits-more 67 68 ends (omega arith) fit

  -- what is asked before a node acts
  pub guard-fits : (n : Node) (condition : Condition) → condition_fits view.sizes condition ≡ true → expr_fits 68 (guard_of view n condition) ≡ true
  guard-fits n Flagged h = read-fits 68 nowhere (flag_place (node_word view n)) (flag-fits 68 (node_word view n) (omega arith) (spells n))
  guard-fits n (Rested slot) h = expr_fits-more 3 68 (rested_at view slot) (omega arith) (slot-rested view slot h)
  guard-fits n (RestedIn slots) h = expr_fits-more 5 68 (rested_in view slots) (omega arith) (in-fits view slots h)
  guard-fits n (Ended age needed) h =
      aged-fits age (ends_test view needed)
      (ends-test-fits view needed (and_first (list_all (slot_fits view.sizes) needed.slots) _ h)
      (and_second (list_all (slot_fits view.sizes) needed.slots) _ h))

  -- ---- changes

  flagged-fits : (d : ℕ) (n : Node) → 2 ≤ d → stmt_fits d (flagged_now view n) ≡ true
  flagged-fits d n some =
      let one : 1 ≤ d = omega (arith, some) in
      set-fits d nowhere (flag_place (node_word view n)) (c_truth true) (flag-fits d (node_word view n) one (spells n)) (truth-fits d true some)

  freed-fits : (d k : ℕ) → 2 ≤ d → k < 2 ^ 64 → stmt_fits d (freed view k) ≡ true
  freed-fits d k some small =
      let one : 1 ≤ d = omega (arith, some) in
      set-fits d nowhere (counter_place k) (counter_value view.sizes k 0) (counter-fits d k one small) (nothing-fits d view.sizes k some)

  forgotten-fits : (d k : ℕ) (read : Bool) → 2 ≤ d → k < 2 ^ 64 → stmts_fit d (forgotten view k read) ≡ true
  forgotten-fits d k true some small =
      let one : 1 ≤ d = omega (arith, some) in
      and_from (stmt_fits d (freed view k)) (stmt_fits d (c_set (rested_place k) (counter_value view.sizes k 0)) && true) (freed-fits d k some small)
      (one-fits d (c_set (rested_place k) (counter_value view.sizes k 0))
      (set-fits d nowhere (rested_place k) (counter_value view.sizes k 0) (rested-fits d k one small) (nothing-fits d view.sizes k some)))
  forgotten-fits d k false some small = one-fits d (freed view k) (freed-fits d k some small)

  change-is : (change : Change) → change_fits view.sizes change ≡ true → stmts_fit 3 (change_code view change) ≡ true
  change-is (SetsFlag n) h = one-fits 3 (flagged_now view n) (flagged-fits 3 n (omega arith))
  change-is (SetsCounter slot) h =
      one-fits 3 (c_set (counter_place slot.counter) (counter_value view.sizes slot.counter slot.value))
      (set-fits 3 nowhere (counter_place slot.counter) (counter_value view.sizes slot.counter slot.value)
      (counter-fits 3 slot.counter (omega arith) (slot_low view.sizes slot h))
      (value-fits 3 view.sizes slot.counter slot.value (omega arith) (slot_value view.sizes slot h)))
  change-is (ClearsCounter k) h = one-fits 3 (freed view k) (freed-fits 3 k (omega arith) (low k h))
  change-is (ClearsBoth k) h = forgotten-fits 3 k (view.is_read k) (omega arith) (low k h)
  change-is (SetsMark n) h =
      one-fits 3 (c_set (mark_place (node_word view n)) (c_truth true))
      (set-fits 3 nowhere (mark_place (node_word view n)) (c_truth true) (mark-fits 3 (node_word view n) (omega arith) (spells n))
      (truth-fits 3 true (omega arith)))
  change-is (EndsWhen start surface depth) h =
      one-fits 3 (c_if (c_read (mark_place (node_word view start))) (flagged_now view surface ∷ []) (Some (flagged_now view depth ∷ [])))
      (else-fits 2 3 (c_read (mark_place (node_word view start))) (flagged_now view surface ∷ []) (flagged_now view depth ∷ []) (omega arith)
      (read-fits 2 nowhere (mark_place (node_word view start)) (mark-fits 2 (node_word view start) (omega arith) (spells start)))
      (one-fits 2 (flagged_now view surface) (flagged-fits 2 surface (omega arith)))
      (one-fits 2 (flagged_now view depth) (flagged-fits 2 depth (omega arith))))
  change-is Finishes h =
      one-fits 3 (c_set over_place (c_truth true))
      (set-fits 3 nowhere over_place (c_truth true) (over-fits 3 (omega arith)) (truth-fits 3 true (omega arith)))

  -- changes one after another
  pub changes-fit : (changes : List Change) → list_all (change_fits view.sizes) changes ≡ true →
      stmts_fit 3 (changes_code view changes) ≡ true
  changes-fit [] all = refl
  changes-fit (change ∷ changes) all =
      all_append (stmt_fits 3) (change_code view change) (changes_code view changes)
      (change-is change (and_first (change_fits view.sizes change) (list_all (change_fits view.sizes) changes) all))
      (changes-fit changes (and_second (change_fits view.sizes change) (list_all (change_fits view.sizes) changes) all))
