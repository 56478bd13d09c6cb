-- Nothing fails in what a block asks, nor in what changes there.
use Rattle.std.proofs.Common.{◌≡◌, ℕ, zero, suc, pos, Bool, true, false, ◌&&◌, List, [], ◌∷◌, map, Some, refl, sym, subst}
use Rattle.std.specs.Prelude.{nat_eq, slice_get, unwrap_or, ⊤, if◌then◌else◌}
use Rattle.std.specs.List.{list_all}
use Rattle.bl_tree.proofs.Basics.{and_first, and_second}
use Rattle.bl_tree.specs.declared.c.CExpr.{CExpr}
use Rattle.bl_tree.specs.declared.c.CMember.{CMember}
use Rattle.bl_tree.specs.declared.c.CPlace.{CPlace}
use Rattle.bl_tree.specs.declared.c.CType.{CType}
use Rattle.bl_tree.specs.declared.c.CType.TheVariants.{Scalar as OfScalar}
use Rattle.bl_tree.specs.declared.scalar.Op.{Op}
use Rattle.bl_tree.specs.declared.scalar.Op.TheVariants.{And, Eq, Ge, Le, Ne, Or}
use Rattle.bl_tree.specs.declared.scalar.Scalar.TheVariants.{Bool as OfBool}
use Rattle.bl_tree.specs.declared.tree.Unit.{Unit as UnitDef}
use Rattle.bl_ctext_semantics.specs.Faults.{Context, Signature, bool_type, takes}
use Rattle.bl_ctext_semantics.specs.Tables.{Table}
use Rattle.bl_graph_nodes.specs.Nodes.{Node}
use Rattle.bl_machine.specs.declared.slots.Slot.{Slot}
use Rattle.bl_machine_pass.specs.Transitions.{Change, Condition, Needed}
use Rattle.bl_machine_pass.specs.Transitions.{ClearsBoth, ClearsCounter, Ended, EndsWhen, Finishes, Flagged, IsAny, IsNew, IsOld, Rested, RestedIn, SetsCounter, SetsFlag, SetsMark}
use Rattle.bl_emit_acts.specs.Acts.{c_set}
use Rattle.bl_emit_acts.specs.Expressions.{hidden}
use Rattle.bl_emit_acts.specs.Trees.{c_not, c_read, c_two}
use Rattle.bl_emit_acts.specs.Types.{c_scalar}
use Rattle.bl_emit_functions.specs.Trees.{c_if, c_truth}
use Rattle.bl_emit_acts_laws_wellformed.specs.Formed.Formed.{BlockIs, ExprIs, PlaceIs, StmtIs}
use Rattle.bl_emit_acts_laws_wellformed.proofs.OnFormed.Acts.{block_append, block_cons, block_nil, block_one, set-is}
use Rattle.bl_emit_acts_laws_wellformed.proofs.OnFormed.Judged.{literal-is, not-is, read-is, two-is}
use Rattle.bl_emit_acts_laws_wellformed.proofs.OnFormed.Operators.{hidden_is}
use Rattle.bl_emit_acts_laws_wellformed.proofs.OnFormed.Prelude.{type_same}
use Rattle.bl_emit_functions_laws_wellformed.proofs.OnFormed.Shapes.{if-is}
use Rattle.bl_emit_spec.specs.Activities.{Activity, activity_view, entry_place}
use Rattle.bl_emit_spec.specs.Blocks.{ActivityView, all_tests, at_slot, change_code, changes_code, counter_type, counter_value, ends_test, flagged_now}
use Rattle.bl_emit_spec.specs.Blocks.{forgotten, freed, guard_of, in_pairs, in_tree, is_greatest, last_value, node_word, rested_at, rested_by, rested_from}
use Rattle.bl_emit_spec.specs.Blocks.{rested_in, rested_since, rested_to, rested_within, some_test}
use Rattle.bl_emit_spec.specs.Names.{counter_place, flag_place, mark_place, over_place, rested_place, with_word}
use Rattle.bl_emit_spec_laws.specs.Registers.Laws.{asks_its_own, changes_its_own}
use Rattle.bl_emit_spec_laws.specs.Calls.Built.{registered}
use Rattle.bl_emit_spec_laws_wellformed_bodies.proofs.OnBodies.Variables.{Here, context, counter-is, flag-is, mark-is, over-is, rested-is}
use Rattle.bl_emit_spec_laws_wellformed.proofs.OnSpelled.Guards.{by_type}

module _ (here : Context) where
  truth-is : (b : Bool) → ExprIs here bool_type (c_truth b)
  truth-is true = literal-is here OfBool (pos 1)
  truth-is false = literal-is here OfBool (pos 0)

  -- tests of type bool
  abbrev AreTests : List CExpr → Type 0
  AreTests [] = ⊤
  AreTests (a ∷ rest) = ExprIs here bool_type a × AreTests rest

  pairs-are : (op : Op) (tests : List CExpr) → takes op bool_type ≡ true → AreTests tests → AreTests (in_pairs op tests)
  pairs-are op [] taken all = tt
  pairs-are op (a ∷ []) taken all = (all.0, tt)
  pairs-are op (a ∷ b ∷ rest) taken all = (two-is here op bool_type a b taken refl all.0 all.1.0, pairs-are op rest taken all.1.1)

  tree-is : (none : CExpr) (op : Op) (fuel : ℕ) (tests : List CExpr) → takes op bool_type ≡ true → ExprIs here bool_type none → AreTests tests →
      ExprIs here bool_type (in_tree none op fuel tests)
  tree-is none op fuel [] taken empty all = empty
  tree-is none op fuel (a ∷ []) taken empty all = all.0
  tree-is none op zero (a ∷ b ∷ rest) taken empty all = all.0
  tree-is none op (suc fuel) (a ∷ b ∷ rest) taken empty all =
      tree-is none op fuel (in_pairs op (a ∷ b ∷ rest)) taken empty (pairs-are op (a ∷ b ∷ rest) taken all)

module _ (units : List UnitDef) (entry k : ℕ) (a : Activity) (table : Table (Table CMember)) (known : Table Signature)
    (h : Here units entry k a table known) where
  abbrev here : Context
  here = context units entry k a table known h

  abbrev view : ActivityView
  view = activity_view a

  -- the type of a counter
  abbrev kind : ℕ → CType
  kind c = OfScalar (counter_type a.sizes c)

  value-is : (c v : ℕ) → ExprIs here (kind c) (counter_value a.sizes c v)
  value-is c v = literal-is here (counter_type a.sizes c) (pos v)

  read-counter : (c : ℕ) → (registered a).counters c ≡ true → ExprIs here (kind c) (c_read (counter_place c))
  read-counter c on = read-is here true (kind c) (counter_place c) (counter-is units entry k a table known h c on)

  read-rested : (c : ℕ) → view.is_read c ≡ true → ExprIs here (kind c) (c_read (rested_place c))
  read-rested c on = read-is here false (kind c) (rested_place c) (rested-is units entry k a table known h c on)

  -- a place is set
  pub put-is : (through : Bool) (ty : CType) (place : CPlace) (value : CExpr) → PlaceIs here through ty place → ExprIs here ty value →
      StmtIs here (c_set place value)
  put-is through ty place value at is = set-is here through ty place value at is refl

  equal-is : (c v : ℕ) (read : CExpr) → ExprIs here (kind c) read → ExprIs here bool_type (c_two Eq read (counter_value a.sizes c v))
  equal-is c v read is = two-is here Eq (kind c) read (counter_value a.sizes c v) refl (type_same (kind c)) is (value-is c v)

  pub slot-at : (slot : Slot) → (registered a).counters slot.counter ≡ true → ExprIs here bool_type (at_slot view slot)
  slot-at slot on = equal-is slot.counter slot.value (c_read (counter_place slot.counter)) (read-counter slot.counter on)

  first-is : (registered a).counters 0 ≡ true → (copied : Bool) → view.is_read 0 ≡ copied → ExprIs here (kind 0) (c_read (entry_place copied))
  first-is on true is = read-rested 0 is
  first-is on false is = read-counter 0 on

  -- the entry waits where the first counter held 0
  pub begins-is : (registered a).counters 0 ≡ true →
      ExprIs here bool_type (c_two Eq (c_read (entry_place (view.is_read 0))) (counter_value a.sizes 0 0))
  begins-is on = equal-is 0 0 (c_read (entry_place (view.is_read 0))) (first-is on (view.is_read 0) refl)

  compare-is : (op : Op) (c v : ℕ) → takes op (kind c) ≡ true → view.is_read c ≡ true →
      ExprIs here bool_type (c_two op (c_read (rested_place c)) (counter_value a.sizes c v))
  compare-is op c v taken on =
      two-is here op (kind c) (c_read (rested_place c)) (counter_value a.sizes c v) taken (type_same (kind c)) (read-rested c on) (value-is c v)

  greater-is : (c v : ℕ) → view.is_read c ≡ true → ExprIs here bool_type (c_two Ge (c_read (rested_place c)) (counter_value a.sizes c v))
  greater-is c v on =
      compare-is Ge c v (by_type (λ s. takes Ge (OfScalar s) ≡ true) refl refl refl (unwrap_or (slice_get a.sizes c) 0)) on

  same_counter : (c : ℕ) → c_scalar (counter_type a.sizes c) ≡ counter_type a.sizes c
  same_counter c = by_type (λ s. c_scalar s ≡ s) refl refl refl (unwrap_or (slice_get a.sizes c) 0)

  hidden-value-is : (c v : ℕ) → ExprIs here (kind c) (hidden (counter_type a.sizes c) (counter_value a.sizes c v))
  hidden-value-is c v =
      let s = counter_type a.sizes c in
      subst (λ t. ExprIs here (OfScalar t) (hidden s (counter_value a.sizes c v))) (same_counter c)
      (hidden_is here s (counter_value a.sizes c v)
      (subst (λ t. ExprIs here (OfScalar t) (counter_value a.sizes c v)) (sym (same_counter c)) (value-is c v)))

  less-is : (c v : ℕ) → view.is_read c ≡ true →
      ExprIs here bool_type (c_two Le (c_read (rested_place c)) (hidden (counter_type a.sizes c) (counter_value a.sizes c v)))
  less-is c v on =
      two-is here Le (kind c) (c_read (rested_place c)) (hidden (counter_type a.sizes c) (counter_value a.sizes c v))
      (by_type (λ s. takes Le (OfScalar s) ≡ true) refl refl refl (unwrap_or (slice_get a.sizes c) 0)) (type_same (kind c)) (read-rested c on)
      (hidden-value-is c v)

  since-is : (c v : ℕ) → view.is_read c ≡ true → ExprIs here bool_type (rested_since view c v)
  since-is c v on = by (nat_eq v 1)
    where
      by : (one : Bool) → ExprIs here bool_type (rested_from view c v one)
      by true = compare-is Ne c 0 refl on
      by false = greater-is c v on

  slot-rested : (slot : Slot) → view.is_read slot.counter ≡ true → ExprIs here bool_type (rested_at view slot)
  slot-rested slot on = by (is_greatest a.sizes slot.counter slot.value)
    where
      by : (last : Bool) → ExprIs here bool_type (rested_by view slot last)
      by true = since-is slot.counter slot.value on
      by false = equal-is slot.counter slot.value (c_read (rested_place slot.counter)) (read-rested slot.counter on)

  between-is : (c least greatest : ℕ) → view.is_read c ≡ true → ExprIs here bool_type (rested_within view c least greatest)
  between-is c least greatest on = by (is_greatest a.sizes c greatest)
    where
      by : (top : Bool) → ExprIs here bool_type (rested_to view c least greatest top)
      by true = since-is c least on
      by false =
          two-is here And bool_type (c_two Ge (c_read (rested_place c)) (counter_value a.sizes c least))
          (c_two Le (c_read (rested_place c)) (hidden (counter_type a.sizes c) (counter_value a.sizes c greatest))) refl refl (greater-is c least on)
          (less-is c greatest on)

  in-is : (slots : List Slot) → list_all (λ (slot : Slot). view.is_read slot.counter) slots ≡ true → ExprIs here bool_type (rested_in view slots)
  in-is [] all = truth-is here false
  in-is (slot ∷ []) all = slot-rested slot (and_first (view.is_read slot.counter) true all)
  in-is (slot ∷ more ∷ rest) all =
      let on : view.is_read slot.counter ≡ true =
      and_first (view.is_read slot.counter) (list_all (λ (slot : Slot). view.is_read slot.counter) (more ∷ rest)) all in
      between-is slot.counter slot.value (last_value more.value rest) on

  ends-are : (slots : List Slot) → list_all (λ (slot : Slot). (registered a).counters slot.counter) slots ≡ true →
      AreTests here (map (at_slot view) slots)
  ends-are [] all = tt
  ends-are (slot ∷ slots) all =
      let test : Slot → Bool = λ (slot : Slot). (registered a).counters slot.counter in
      (slot-at slot (and_first (test slot) (list_all test slots) all), ends-are slots (and_second (test slot) (list_all test slots) all))

  ends-is : (needed : Needed) → list_all (λ (slot : Slot). (registered a).counters slot.counter) needed.slots ≡ true →
      ExprIs here bool_type (ends_test view needed)
  ends-is needed all = by needed.all
    where
      by : (b : Bool) → ExprIs here bool_type (if b then all_tests (map (at_slot view) needed.slots) else some_test (map (at_slot view) needed.slots))
      by true =
          tree-is here (c_truth true) And _ (map (at_slot view) needed.slots) refl (truth-is here true) (ends-are needed.slots all)
      by false =
          tree-is here (c_truth false) Or _ (map (at_slot view) needed.slots) refl (truth-is here false) (ends-are needed.slots all)

  read-mark : (n : ℕ) → (registered a).marks n ≡ true → ExprIs here bool_type (c_read (mark_place (with_word view.word n)))
  read-mark n on = read-is here false bool_type (mark_place (with_word view.word n)) (mark-is units entry k a table known h n on)

  -- what is asked before a node acts
  pub guard-is : (n : Node) (condition : Condition) → asks_its_own view (registered a) n condition ≡ true → ExprIs here bool_type (guard_of view n condition)
  guard-is n Flagged on =
      read-is here false bool_type (flag_place (node_word view n)) (flag-is units entry k a table known h (view.number n) on)
  guard-is n (Rested slot) on = slot-rested slot on
  guard-is n (RestedIn slots) on = in-is slots (and_first (list_all (λ (slot : Slot). view.is_read slot.counter) slots) _ on)
  guard-is n (Ended (IsNew m) needed) on =
      two-is here And bool_type (c_read (mark_place (node_word view m))) (ends_test view needed) refl refl
      (read-mark (view.number m) (and_first ((registered a).marks (view.number m)) _ on))
      (ends-is needed (and_second ((registered a).marks (view.number m)) _ on))
  guard-is n (Ended (IsOld m) needed) on =
      two-is here And bool_type (c_not (c_read (mark_place (node_word view m)))) (ends_test view needed) refl refl
      (not-is here (c_read (mark_place (node_word view m))) (read-mark (view.number m) (and_first ((registered a).marks (view.number m)) _ on)))
      (ends-is needed (and_second ((registered a).marks (view.number m)) _ on))
  guard-is n (Ended IsAny needed) on = ends-is needed on

  -- ---- changes

  pub flagged-is : (n : Node) → (registered a).flags (view.number n) ≡ true → StmtIs here (flagged_now view n)
  flagged-is n on =
      put-is false bool_type (flag_place (node_word view n)) (c_truth true) (flag-is units entry k a table known h (view.number n) on) (truth-is here true)

  freed-is : (c : ℕ) → (registered a).counters c ≡ true → StmtIs here (freed view c)
  freed-is c on = put-is true (kind c) (counter_place c) (counter_value a.sizes c 0) (counter-is units entry k a table known h c on) (value-is c 0)

  forgotten-is : (c : ℕ) (read : Bool) → view.is_read c ≡ read → (registered a).counters c ≡ true → BlockIs here (forgotten view c read)
  forgotten-is c true is on =
      block_cons here (freed view c) (c_set (rested_place c) (counter_value a.sizes c 0) ∷ []) (freed-is c on)
      (block_one here (c_set (rested_place c) (counter_value a.sizes c 0))
      (put-is false (kind c) (rested_place c) (counter_value a.sizes c 0) (rested-is units entry k a table known h c is) (value-is c 0)))
  forgotten-is c false is on = block_one here (freed view c) (freed-is c on)

  change-is : (change : Change) → changes_its_own view.number (registered a) change ≡ true → BlockIs here (change_code view change)
  change-is (SetsFlag n) on = block_one here (flagged_now view n) (flagged-is n on)
  change-is (SetsCounter slot) on =
      block_one here (c_set (counter_place slot.counter) (counter_value a.sizes slot.counter slot.value))
      (put-is true (kind slot.counter) (counter_place slot.counter) (counter_value a.sizes slot.counter slot.value)
      (counter-is units entry k a table known h slot.counter on) (value-is slot.counter slot.value))
  change-is (ClearsCounter c) on = block_one here (freed view c) (freed-is c on)
  change-is (ClearsBoth c) on = forgotten-is c (view.is_read c) refl on
  change-is (SetsMark n) on =
      block_one here (c_set (mark_place (node_word view n)) (c_truth true))
      (put-is false bool_type (mark_place (node_word view n)) (c_truth true) (mark-is units entry k a table known h (view.number n) on) (truth-is here true))
  change-is (EndsWhen start surface depth) on =
      let marks : Bool = (registered a).marks (view.number start) in
      let first : Bool = (registered a).flags (view.number surface) in
      let second : Bool = (registered a).flags (view.number depth) in
      let other : BlockIs here (flagged_now view depth ∷ []) =
      block_one here (flagged_now view depth) (flagged-is depth (and_second first second (and_second marks (first && second) on))) in
      block_one here (c_if (c_read (mark_place (node_word view start))) (flagged_now view surface ∷ []) (Some (flagged_now view depth ∷ [])))
      (if-is here (c_read (mark_place (node_word view start))) (flagged_now view surface ∷ []) (Some (flagged_now view depth ∷ []))
      (read-mark (view.number start) (and_first marks (first && second) on))
      (block_one here (flagged_now view surface) (flagged-is surface (and_first first second (and_second marks (first && second) on))))
      (λ looped. other looped))
  change-is Finishes on =
      block_one here (c_set over_place (c_truth true))
      (put-is true bool_type over_place (c_truth true) (over-is units entry k a table known h on) (truth-is here true))

  -- changes one after another
  pub changes-are : (changes : List Change) → list_all (changes_its_own view.number (registered a)) changes ≡ true →
      BlockIs here (changes_code view changes)
  changes-are [] all = block_nil here
  changes-are (change ∷ changes) all =
      let test : Change → Bool = changes_its_own view.number (registered a) in
      block_append here (change_code view change) (changes_code view changes)
      (change-is change (and_first (test change) (list_all test changes) all))
      (changes-are changes (and_second (test change) (list_all test changes) all))
