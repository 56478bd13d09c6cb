-- What stands before the nodes of an activity's C, and what changes at them, names its own counters alone.
use Rattle.std.proofs.Common.{◌≡◌, ℕ, zero, suc, pos, Bool, true, false, List, [], ◌∷◌, ◌++◌, map, Some}
use Rattle.std.proofs.Common.{length, ap, ◌∙◌, codes}
use Rattle.std.specs.Prelude.{if◌then◌else◌, nat_eq}
use Rattle.bl_tree.specs.declared.c.CExpr.{CExpr}
use Rattle.bl_tree.specs.declared.scalar.Op.{Op}
use Rattle.bl_tree.specs.declared.scalar.Op.TheVariants.{And, Eq, Ge, Le, Ne, Or}
use Rattle.bl_tree.specs.declared.text.Text.{Text}
use Rattle.bl_graph_nodes.specs.Nodes.{Node}
use Rattle.bl_machine.specs.declared.slots.Slot.{Slot}
use Rattle.bl_emit_acts.specs.Acts.{c_set}
use Rattle.bl_emit_acts.specs.Expressions.{hidden}
use Rattle.bl_emit_acts.specs.Trees.{c_not, c_place, c_read, c_step, c_two}
use Rattle.bl_emit_functions.specs.Trees.{c_if, c_truth}
use Rattle.bl_machine_pass.specs.Transitions.{Age, Change, Condition, Needed}
use Rattle.bl_machine_pass.specs.Transitions.{ClearsBoth, ClearsCounter, Ended, EndsWhen, Finishes, Flagged, IsAny, IsNew, IsOld, Rested, RestedIn}
use Rattle.bl_machine_pass.specs.Transitions.{SetsCounter, SetsFlag, SetsMark}
use Rattle.bl_emit_spec.specs.Blocks.{ActivityView, aged_test, all_tests, at_slot, change_code, changes_code, counter_type, counter_value, ends_test}
use Rattle.bl_emit_spec.specs.Blocks.{flagged_now, forgotten, freed, guard_of, in_pairs, in_tree, is_greatest, last_value, node_word, rested_at, rested_by}
use Rattle.bl_emit_spec.specs.Blocks.{rested_between, rested_from, rested_in, rested_since, rested_to, rested_within, some_test}
use Rattle.bl_emit_spec.specs.Names.{counter_name, counter_place, flag_name, flag_place, mark_name, mark_place, over_place, rested_name, rested_place}
use Rattle.bl_ctext_places.specs.Counters.{names_counter}
use Rattle.bl_ctext_places.specs.Places.{CPath, StepParts, places_in_place}
use Rattle.bl_emit_laws.proofs.OnCounters.Expressions.{ExprFine, PlaceFine, hidden-fine, literal-fine, not-fine, read-fine, root-fine, two-fine}
use Rattle.bl_emit_laws.proofs.OnCounters.Fine.{same-fine}
use Rattle.bl_emit_laws.proofs.OnCounters.Shapes.{place-names, step-passes}
use Rattle.bl_emit_laws.proofs.OnCounters.Statements.{CodeFine, StmtFine, first_stmt, if-fine, one_stmt, set-fine, then_code, truth-fine}

-- the place of a counter of the running activity
abbrev pub own_counter : Text → CPath
own_counter counter = record { through = true; name = codes "f"; members = counter ∷ [] }

pub counter-names : (k : ℕ) → places_in_place (counter_place k) ≡ own_counter (counter_name k) ∷ []
counter-names k =
    place-names true (codes "f") (c_step (counter_name k) ∷ [])
    ∙ ap (λ (step : StepParts). own_counter step.member ∷ (step.inside ++ [])) (step-passes (counter_name k))

module _ (P : CPath → Type 0) (plain : (place : CPath) → names_counter place ≡ false → P place)
    (own : (k : ℕ) → P (own_counter (counter_name k))) where
  -- ---- places of registers

  pub counter_fine : (k : ℕ) → PlaceFine P plain (counter_place k)
  counter_fine k = same-fine P (places_in_place (counter_place k)) (own_counter (counter_name k) ∷ []) (counter-names k) (own k, tt)

  pub counter_read : (k : ℕ) → ExprFine P plain (c_read (counter_place k))
  counter_read k = read-fine P plain (counter_place k) (counter_fine k)

  pub local_fine : (name : Text) → PlaceFine P plain (c_place false name [])
  local_fine name = root-fine P plain false name

  pub local_read : (name : Text) → ExprFine P plain (c_read (c_place false name []))
  local_read name = read-fine P plain (c_place false name []) (local_fine name)

  pub value_fine : (view : ActivityView) (k v : ℕ) → ExprFine P plain (counter_value view.sizes k v)
  value_fine view k v = literal-fine P plain (counter_type view.sizes k) (pos v)

  -- ---- many tests

  abbrev TestsFine : List CExpr → Type 0
  TestsFine [] = Unit {0}
  TestsFine (e ∷ rest) = ExprFine P plain e × TestsFine rest

  pairs_fine : (op : Op) (tests : List CExpr) → TestsFine tests → TestsFine (in_pairs op tests)
  pairs_fine op [] all = tt
  pairs_fine op (a ∷ []) all = all
  pairs_fine op (a ∷ b ∷ rest) all = (two-fine P plain op a b all.0 all.1.0, pairs_fine op rest all.1.1)

  tree_fine : (none : CExpr) → ExprFine P plain none → (op : Op) (fuel : ℕ) (tests : List CExpr) → TestsFine tests →
      ExprFine P plain (in_tree none op fuel tests)
  tree_fine none is op fuel [] all = is
  tree_fine none is op fuel (a ∷ []) all = all.0
  tree_fine none is op zero (a ∷ b ∷ rest) all = all.0
  tree_fine none is op (suc fuel) (a ∷ b ∷ rest) all =
      tree_fine none is op fuel (in_pairs op (a ∷ b ∷ rest)) (pairs_fine op (a ∷ b ∷ rest) all)

  -- ---- guards

  slot_fine : (view : ActivityView) (slot : Slot) → ExprFine P plain (at_slot view slot)
  slot_fine view slot =
      two-fine P plain Eq (c_read (counter_place slot.counter)) (counter_value view.sizes slot.counter slot.value) (counter_read slot.counter)
      (value_fine view slot.counter slot.value)

  slots_fine : (view : ActivityView) (slots : List Slot) → TestsFine (map (at_slot view) slots)
  slots_fine view [] = tt
  slots_fine view (slot ∷ rest) = (slot_fine view slot, slots_fine view rest)

  since_fine : (view : ActivityView) (k least : ℕ) → ExprFine P plain (rested_since view k least)
  since_fine view k least = by (nat_eq least 1)
    where
      by : (one : Bool) → ExprFine P plain (rested_from view k least one)
      by true = two-fine P plain Ne (c_read (rested_place k)) (counter_value view.sizes k 0) (local_read (rested_name k)) (value_fine view k 0)
      by false = two-fine P plain Ge (c_read (rested_place k)) (counter_value view.sizes k least) (local_read (rested_name k)) (value_fine view k least)

  rested_fine : (view : ActivityView) (slot : Slot) → ExprFine P plain (rested_at view slot)
  rested_fine view slot = by (is_greatest view.sizes slot.counter slot.value)
    where
      by : (last : Bool) → ExprFine P plain (rested_by view slot last)
      by true = since_fine view slot.counter slot.value
      by false =
          two-fine P plain Eq (c_read (rested_place slot.counter)) (counter_value view.sizes slot.counter slot.value)
          (local_read (rested_name slot.counter)) (value_fine view slot.counter slot.value)

  between_fine : (view : ActivityView) (k least most : ℕ) → ExprFine P plain (rested_between view k least most)
  between_fine view k least most =
      let here = local_read (rested_name k) in
      let last = hidden (counter_type view.sizes k) (counter_value view.sizes k most) in
      two-fine P plain And (c_two Ge (c_read (rested_place k)) (counter_value view.sizes k least)) (c_two Le (c_read (rested_place k)) last)
      (two-fine P plain Ge (c_read (rested_place k)) (counter_value view.sizes k least) here (value_fine view k least))
      (two-fine P plain Le (c_read (rested_place k)) last here
      (hidden-fine P plain (counter_type view.sizes k) (counter_value view.sizes k most) (value_fine view k most)))

  within_fine : (view : ActivityView) (k least most : ℕ) → ExprFine P plain (rested_within view k least most)
  within_fine view k least most = by (is_greatest view.sizes k most)
    where
      by : (top : Bool) → ExprFine P plain (rested_to view k least most top)
      by true = since_fine view k least
      by false = between_fine view k least most

  in_fine : (view : ActivityView) (slots : List Slot) → ExprFine P plain (rested_in view slots)
  in_fine view [] = truth-fine P plain false
  in_fine view (slot ∷ []) = rested_fine view slot
  in_fine view (slot ∷ more ∷ rest) = within_fine view slot.counter slot.value (last_value more.value rest)

  ends_fine : (view : ActivityView) (needed : Needed) → ExprFine P plain (ends_test view needed)
  ends_fine view needed = by needed.all
    where
      tests : List CExpr
      tests = map (at_slot view) needed.slots

      by : (b : Bool) → ExprFine P plain (if b then all_tests tests else some_test tests)
      by true = tree_fine (c_truth true) (truth-fine P plain true) And (length tests) tests (slots_fine view needed.slots)
      by false = tree_fine (c_truth false) (truth-fine P plain false) Or (length tests) tests (slots_fine view needed.slots)

  mark_read : (view : ActivityView) (m : Node) → ExprFine P plain (c_read (mark_place (node_word view m)))
  mark_read view m = local_read (mark_name (node_word view m))

  aged_fine : (view : ActivityView) (age : Age) (ends : CExpr) → ExprFine P plain ends → ExprFine P plain (aged_test view age ends)
  aged_fine view (IsNew m) ends all = two-fine P plain And (c_read (mark_place (node_word view m))) ends (mark_read view m) all
  aged_fine view (IsOld m) ends all =
      two-fine P plain And (c_not (c_read (mark_place (node_word view m)))) ends
      (not-fine P plain (c_read (mark_place (node_word view m))) (mark_read view m)) all
  aged_fine view IsAny ends all = all

  pub guard_fine : (view : ActivityView) (m : Node) (condition : Condition) → ExprFine P plain (guard_of view m condition)
  guard_fine view m Flagged = local_read (flag_name (node_word view m))
  guard_fine view m (Rested slot) = rested_fine view slot
  guard_fine view m (RestedIn slots) = in_fine view slots
  guard_fine view m (Ended age needed) = aged_fine view age (ends_test view needed) (ends_fine view needed)

  -- ---- changes

  flag_fine : (view : ActivityView) (m : Node) → StmtFine P plain (flagged_now view m)
  flag_fine view m = set-fine P plain (flag_place (node_word view m)) (c_truth true) (local_fine (flag_name (node_word view m))) (truth-fine P plain true)

  freed_fine : (view : ActivityView) (k : ℕ) → StmtFine P plain (freed view k)
  freed_fine view k = set-fine P plain (counter_place k) (counter_value view.sizes k 0) (counter_fine k) (value_fine view k 0)

  forgotten_fine : (view : ActivityView) (k : ℕ) (read : Bool) → CodeFine P plain (forgotten view k read)
  forgotten_fine view k true =
      first_stmt P plain (freed view k) (c_set (rested_place k) (counter_value view.sizes k 0) ∷ []) (freed_fine view k)
      (one_stmt P plain (c_set (rested_place k) (counter_value view.sizes k 0))
      (set-fine P plain (rested_place k) (counter_value view.sizes k 0) (local_fine (rested_name k)) (value_fine view k 0)))
  forgotten_fine view k false = one_stmt P plain (freed view k) (freed_fine view k)

  change_fine : (view : ActivityView) (change : Change) → CodeFine P plain (change_code view change)
  change_fine view (SetsFlag m) = one_stmt P plain (flagged_now view m) (flag_fine view m)
  change_fine view (SetsCounter slot) =
      one_stmt P plain (c_set (counter_place slot.counter) (counter_value view.sizes slot.counter slot.value))
      (set-fine P plain (counter_place slot.counter) (counter_value view.sizes slot.counter slot.value) (counter_fine slot.counter)
      (value_fine view slot.counter slot.value))
  change_fine view (ClearsCounter k) = one_stmt P plain (freed view k) (freed_fine view k)
  change_fine view (ClearsBoth k) = forgotten_fine view k (view.is_read k)
  change_fine view (SetsMark m) =
      one_stmt P plain (c_set (mark_place (node_word view m)) (c_truth true))
      (set-fine P plain (mark_place (node_word view m)) (c_truth true) (local_fine (mark_name (node_word view m))) (truth-fine P plain true))
  change_fine view (EndsWhen start surface depth) =
      one_stmt P plain (c_if (c_read (mark_place (node_word view start))) (flagged_now view surface ∷ []) (Some (flagged_now view depth ∷ [])))
      (if-fine P plain (c_read (mark_place (node_word view start))) (flagged_now view surface ∷ []) (Some (flagged_now view depth ∷ []))
      (mark_read view start) (one_stmt P plain (flagged_now view surface) (flag_fine view surface))
      (one_stmt P plain (flagged_now view depth) (flag_fine view depth)))
  change_fine view Finishes =
      one_stmt P plain (c_set over_place (c_truth true))
      (set-fine P plain over_place (c_truth true) (root-fine P plain true (codes "e")) (truth-fine P plain true))

  pub changes_fine : (view : ActivityView) (changes : List Change) → CodeFine P plain (changes_code view changes)
  changes_fine view [] = tt
  changes_fine view (change ∷ rest) =
      then_code P plain (change_code view change) (changes_code view rest) (change_fine view change) (changes_fine view rest)
