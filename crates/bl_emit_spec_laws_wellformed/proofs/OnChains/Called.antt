-- The C of an activity calls the prelude's functions, and what is called at its nodes.
use Rattle.std.proofs.Common.{◌≡◌, ℕ, zero, suc, ◌≤◌, pos, Bool, true, false, List, [], ◌∷◌, ◌++◌, map, Option, Some, None}
use Rattle.std.proofs.Common.{length, refl, sym, ap, subst, ◌∙◌, codes}
use Rattle.std.proofs.lemmas.List.Elements.{All-cons, All-nil}
use Rattle.std.specs.Prelude.{All, is_some, nat_eq, option_to_list, slice_get, if◌then◌else◌}
use Rattle.bl_tree.specs.declared.text.Text.{Text}
use Rattle.bl_tree.specs.declared.c.CArg.{CArg}
use Rattle.bl_tree.specs.declared.c.CArg.TheVariants.{Address}
use Rattle.bl_tree.specs.declared.c.CExpr.{CExpr}
use Rattle.bl_tree.specs.declared.c.CPlace.{CPlace}
use Rattle.bl_tree.specs.declared.c.CStmt.{CStmt}
use Rattle.bl_tree.specs.declared.scalar.Op.{Op}
use Rattle.bl_tree.specs.declared.scalar.Op.TheVariants.{And, Eq, Ge, Le, Ne, Or}
use Rattle.bl_tree.specs.declared.scalar.Scalar.{Scalar as ScalarType}
use Rattle.bl_tree.specs.declared.scalar.Scalar.TheVariants.{Bool as OfBool}
use Rattle.bl_tree.specs.declared.tree.Arm.{Arm}
use Rattle.bl_tree.specs.declared.tree.Branch.{Branch}
use Rattle.bl_tree.specs.declared.tree.Expr.{Expr}
use Rattle.bl_tree.specs.declared.tree.Path.{Path}
use Rattle.bl_tree.specs.declared.tree.Stmt.{Stmt, fold_out-Stmt, out-Stmt}
use Rattle.bl_tree.specs.declared.tree.StmtKind.{StmtKind, fold-StmtKind, fold_out-StmtKind, map-StmtKind, out-StmtKind}
use Rattle.bl_tree.specs.declared.tree.StmtKind.TheOpen.{StmtKind-F}
use Rattle.bl_tree.specs.declared.tree.Ty.{Ty}
use Rattle.bl_tree.specs.Reduce.{joined}
use Rattle.bl_tree.specs.Types.{scalar_in}
use Rattle.bl_tree.specs.Typing.{var_at}
use Rattle.bl_limits_measures.specs.Calls.{argument_calls, arm_calls, branch_calls, calls_in as named_in, calls_in_arm, calls_in_branch, calls_in_expr}
use Rattle.bl_limits_measures.specs.Calls.{calls_in_path, optional_calls, stmt_kind_calls, stmt_layer_calls, target_calls}
use Rattle.bl_graph_nodes.specs.Nodes.{ActAt, Arguments, CheckAt, DepthEndAt, DepthJoinAt, EnterAt, ForkAt, HeadAt, Node, PauseAt, ResumeAt, StartAt}
use Rattle.bl_graph_nodes.specs.Nodes.{SurfaceEndAt, SurfaceJoinAt, TestAt, entry}
use Rattle.bl_graph_nodes.specs.Plain.{Block, Done, Then}
use Rattle.bl_machine.specs.declared.slots.Slot.{Slot}
use Rattle.bl_ctext_semantics.specs.Calls.{calls_in, calls_in_arg, calls_in_block, calls_in_place, calls_in_step, calls_in_stmt}
use Rattle.bl_emit_acts.specs.Acts.{c_calling, c_clear, c_copied, c_set, c_zeroed, call_args, call_made, code_made, copy_code, initial_code}
use Rattle.bl_emit_acts.specs.Acts.{is_copied, layer_code, name_of_callee, output_arg, zeroed}
use Rattle.bl_emit_acts.specs.Expressions.{arg_of, code_of, function_name, hidden, made_of, stands, type_at}
use Rattle.bl_emit_acts.specs.Places.{place_in}
use Rattle.bl_emit_acts.specs.Trees.{c_call, c_literal, c_not, c_place, c_read, c_step, c_two}
use Rattle.bl_emit_acts.specs.Types.{c_scalar, copy_name, type_name}
use Rattle.bl_emit_functions.specs.Statements.{else_code}
use Rattle.bl_emit_functions.specs.Trees.{c_if, c_truth}
use Rattle.bl_emit_functions_laws_wellformed.proofs.OnFiles.Expressions.{Light, args_light, call-light, callee_light, expr_light, literal-light}
use Rattle.bl_emit_functions_laws_wellformed.proofs.OnFiles.Expressions.{hidden-light, none-light, own_light, path_light, read-light, root-light, same-light, two-light}
use Rattle.bl_emit_functions_laws_wellformed.proofs.OnFiles.Shapes.{address-calls, calling-calls, clear-calls, if-calls}
use Rattle.bl_emit_functions_laws_wellformed.proofs.OnFiles.Shapes.{not-calls, other_calls, place-calls, step-calls}
use Rattle.bl_emit_functions_laws_wellformed.proofs.OnFiles.Statements.{Few, first_few, none_few, one_few, set_few, then_few}
use Rattle.bl_emit_functions_laws_wellformed.proofs.OnFiles.Under.{Under, append-under, back-under, both-under, front-under, head-under, none-under, tail-under}
use Rattle.bl_machine_pass.specs.Transitions.{Age, Change, Condition, Needed, Transition}
use Rattle.bl_machine_pass.specs.Transitions.{ClearsBoth, ClearsCounter, Ended, EndsWhen, Finishes, Flagged, IsAny, IsNew, IsOld, Rested, RestedIn}
use Rattle.bl_machine_pass.specs.Transitions.{SetsCounter, SetsFlag, SetsMark}
use Rattle.bl_machine_transitions.specs.Callees.{callees_in}
use Rattle.bl_emit_spec.specs.Activities.{Activity, activity_code, activity_view, blocks_code, blocks_in_order, body_of, copied_in, counters_read, entry_code}
use Rattle.bl_emit_spec.specs.Activities.{entry_place, picked, rested_code, rules_at, turns_in_source}
use Rattle.bl_emit_spec.specs.Blocks.{ActivityView, NodeCode, acted, aged_test, all_merged, all_tests, arg_where, at_slot, begun_code, change_code}
use Rattle.bl_emit_spec.specs.Blocks.{changes_code, choice_code, control_code, control_unless, counter_type, counter_value, ends_test, entered_by, flagged_now}
use Rattle.bl_emit_spec.specs.Blocks.{forgotten, freed, fused_code, guard_of, has_result, in_pairs, in_tree, is_greatest, last_value, layer_acted, leaving_flag}
use Rattle.bl_emit_spec.specs.Blocks.{may_end_in, merged_code, name_in, next_turn, node_word, node_turn, own_code, rested_at, rested_between, rested_by}
use Rattle.bl_emit_spec.specs.Blocks.{rested_from, rested_in, rested_since, rested_to, rested_within, resumed_code, run_args, run_code, some_test}
use Rattle.bl_emit_spec.specs.Blocks.{spelled_truth, stmt_where, target_code, test_code, turns_of, word_at}
use Rattle.bl_emit_spec.specs.Names.{callee_frame, callee_memory, callee_name, counter_name, counter_place, ended_name, ended_place, flag_name, flag_place}
use Rattle.bl_emit_spec.specs.Names.{frame_name, given_name, given_place, mark_name, mark_place, over_place, rested_name, rested_place, result_place}
use Rattle.bl_emit_spec.specs.Names.{NumberedWord, with_word}
use Rattle.bl_emit_spec_laws_wellformed.proofs.OnChains.Nodes.{AllUnder, node_calls}

-- the calls of a statement's kind
abbrev calls_inside : StmtKind-F StmtKind Arm Branch Stmt → StmtKind-F (List ℕ) (List ℕ) (List ℕ) (List ℕ)
calls_inside = map-StmtKind StmtKind Arm Branch Stmt (List ℕ) (List ℕ) (List ℕ) (List ℕ)
    (fold-StmtKind (List ℕ) (List ℕ) (List ℕ) (List ℕ) stmt_kind_calls arm_calls branch_calls stmt_layer_calls) calls_in_arm calls_in_branch named_in

calls_at : (s : Stmt) (layer : StmtKind-F StmtKind Arm Branch Stmt) → out-StmtKind (out-Stmt s).what ≡ layer →
    named_in s ≡ stmt_kind_calls (calls_inside layer)
calls_at s layer is =
    fold_out-Stmt (List ℕ) (List ℕ) (List ℕ) (List ℕ) stmt_kind_calls arm_calls branch_calls stmt_layer_calls s
    ∙ fold_out-StmtKind (List ℕ) (List ℕ) (List ℕ) (List ℕ) stmt_kind_calls arm_calls branch_calls stmt_layer_calls (out-Stmt s).what
    ∙ ap (λ layer. stmt_kind_calls (calls_inside layer)) is

module _ (weight : Text → ℕ) (prelude : (word : Text) (s : ScalarType) → weight (function_name word s) ≡ 0) (n : ℕ) where
  abbrev ExprFew : CExpr → Type 0
  ExprFew e = Light weight prelude n (calls_in e)

  abbrev PlaceFew : CPlace → Type 0
  PlaceFew place = Light weight prelude n (calls_in_place place)

  abbrev StmtFew : CStmt → Type 0
  StmtFew s = Light weight prelude n (calls_in_stmt s)

  abbrev CodeFew : List CStmt → Type 0
  CodeFew code = Few weight prelude n code

  -- ---- places and tests of registers

  local_few : (name : Text) → PlaceFew (c_place false name [])
  local_few name = root-light weight prelude n false name

  pointed_few : (name : Text) → PlaceFew (c_place true name [])
  pointed_few name = root-light weight prelude n true name

  member_few : (name member : Text) → PlaceFew (c_place true name (c_step member ∷ []))
  member_few name member =
      same-light weight prelude n (calls_in_place (c_place true name (c_step member ∷ []))) (joined (map calls_in_step (c_step member ∷ [])))
      (place-calls true name (c_step member ∷ []))
      (append-under weight n (calls_in_step (c_step member)) [] (none-light weight prelude n (calls_in_step (c_step member)) (step-calls member))
      (none-under weight n))

  reads_few : (place : CPlace) → PlaceFew place → ExprFew (c_read place)
  reads_few place all = read-light weight prelude n place all

  value_few : (view : ActivityView) (k v : ℕ) → ExprFew (counter_value view.sizes k v)
  value_few view k v = literal-light weight prelude n (counter_type view.sizes k) (pos v)

  truth_few : (b : Bool) → ExprFew (c_truth b)
  truth_few true = literal-light weight prelude n OfBool (pos 1)
  truth_few false = literal-light weight prelude n OfBool (pos 0)

  abbrev AllFew : List CExpr → Type 0
  AllFew [] = Unit {0}
  AllFew (e ∷ rest) = ExprFew e × AllFew rest

  pairs_few : (op : Op) (tests : List CExpr) → AllFew tests → AllFew (in_pairs op tests)
  pairs_few op [] all = tt
  pairs_few op (a ∷ []) all = all
  pairs_few op (a ∷ b ∷ rest) all = (two-light weight prelude n op a b all.0 all.1.0, pairs_few op rest all.1.1)

  tree_few : (none : CExpr) → ExprFew none → (op : Op) (fuel : ℕ) (tests : List CExpr) → AllFew tests → ExprFew (in_tree none op fuel tests)
  tree_few none is op fuel [] all = is
  tree_few none is op fuel (a ∷ []) all = all.0
  tree_few none is op zero (a ∷ b ∷ rest) all = all.0
  tree_few none is op (suc fuel) (a ∷ b ∷ rest) all =
      tree_few none is op fuel (in_pairs op (a ∷ b ∷ rest)) (pairs_few op (a ∷ b ∷ rest) all)

  slot_few : (view : ActivityView) (slot : Slot) → ExprFew (at_slot view slot)
  slot_few view slot =
      two-light weight prelude n Eq (c_read (counter_place slot.counter)) (counter_value view.sizes slot.counter slot.value)
      (reads_few (counter_place slot.counter) (member_few (codes "f") (counter_name slot.counter))) (value_few view slot.counter slot.value)

  slots_few : (view : ActivityView) (slots : List Slot) → AllFew (map (at_slot view) slots)
  slots_few view [] = tt
  slots_few view (slot ∷ rest) = (slot_few view slot, slots_few view rest)

  since_few : (view : ActivityView) (k least : ℕ) → ExprFew (rested_since view k least)
  since_few view k least = by (nat_eq least 1)
    where
      by : (one : Bool) → ExprFew (rested_from view k least one)
      by true =
          two-light weight prelude n Ne (c_read (rested_place k)) (counter_value view.sizes k 0)
          (reads_few (rested_place k) (local_few (rested_name k))) (value_few view k 0)
      by false =
          two-light weight prelude n Ge (c_read (rested_place k)) (counter_value view.sizes k least)
          (reads_few (rested_place k) (local_few (rested_name k))) (value_few view k least)

  rested_few : (view : ActivityView) (slot : Slot) → ExprFew (rested_at view slot)
  rested_few view slot = by (is_greatest view.sizes slot.counter slot.value)
    where
      by : (last : Bool) → ExprFew (rested_by view slot last)
      by true = since_few view slot.counter slot.value
      by false =
          two-light weight prelude n Eq (c_read (rested_place slot.counter)) (counter_value view.sizes slot.counter slot.value)
          (reads_few (rested_place slot.counter) (local_few (rested_name slot.counter))) (value_few view slot.counter slot.value)

  -- ---- guards

  between_few : (view : ActivityView) (k least most : ℕ) → ExprFew (rested_between view k least most)
  between_few view k least most =
      let here = reads_few (rested_place k) (local_few (rested_name k)) in
      let s = counter_type view.sizes k in
      let last = hidden s (counter_value view.sizes k most) in
      two-light weight prelude n And (c_two Ge (c_read (rested_place k)) (counter_value view.sizes k least)) (c_two Le (c_read (rested_place k)) last)
      (two-light weight prelude n Ge (c_read (rested_place k)) (counter_value view.sizes k least) here (value_few view k least))
      (two-light weight prelude n Le (c_read (rested_place k)) last here
      (hidden-light weight prelude n s (counter_value view.sizes k most) (value_few view k most)))

  within_few : (view : ActivityView) (k least most : ℕ) → ExprFew (rested_within view k least most)
  within_few view k least most = by (is_greatest view.sizes k most)
    where
      by : (top : Bool) → ExprFew (rested_to view k least most top)
      by true = since_few view k least
      by false = between_few view k least most

  in_few : (view : ActivityView) (slots : List Slot) → ExprFew (rested_in view slots)
  in_few view [] = truth_few false
  in_few view (slot ∷ []) = rested_few view slot
  in_few view (slot ∷ more ∷ rest) = within_few view slot.counter slot.value (last_value more.value rest)

  ends_few : (view : ActivityView) (needed : Needed) → ExprFew (ends_test view needed)
  ends_few view needed = by needed.all
    where
      tests : List CExpr
      tests = map (at_slot view) needed.slots

      by : (b : Bool) → ExprFew (if b then all_tests tests else some_test tests)
      by true = tree_few (c_truth true) (truth_few true) And (length tests) tests (slots_few view needed.slots)
      by false = tree_few (c_truth false) (truth_few false) Or (length tests) tests (slots_few view needed.slots)

  mark_few : (view : ActivityView) (m : Node) → ExprFew (c_read (mark_place (node_word view m)))
  mark_few view m = reads_few (mark_place (node_word view m)) (local_few (mark_name (node_word view m)))

  aged_few : (view : ActivityView) (age : Age) (ends : CExpr) → ExprFew ends → ExprFew (aged_test view age ends)
  aged_few view (IsNew m) ends all = two-light weight prelude n And (c_read (mark_place (node_word view m))) ends (mark_few view m) all
  aged_few view (IsOld m) ends all =
      two-light weight prelude n And (c_not (c_read (mark_place (node_word view m)))) ends
      (same-light weight prelude n (calls_in (c_not (c_read (mark_place (node_word view m))))) (calls_in (c_read (mark_place (node_word view m))))
      (not-calls (c_read (mark_place (node_word view m)))) (mark_few view m)) all
  aged_few view IsAny ends all = all

  guard_few : (view : ActivityView) (m : Node) (condition : Condition) → ExprFew (guard_of view m condition)
  guard_few view m Flagged = reads_few (flag_place (node_word view m)) (local_few (flag_name (node_word view m)))
  guard_few view m (Rested slot) = rested_few view slot
  guard_few view m (RestedIn slots) = in_few view slots
  guard_few view m (Ended age needed) = aged_few view age (ends_test view needed) (ends_few view needed)

  -- ---- changes

  if_few : (test : CExpr) (block : List CStmt) (other : Option (List CStmt)) → ExprFew test → CodeFew block →
      Light weight prelude n (other_calls other) → StmtFew (c_if test block other)
  if_few test block other is one more =
      same-light weight prelude n (calls_in_stmt (c_if test block other)) ((calls_in test ++ calls_in_block block) ++ other_calls other)
      (if-calls test block other)
      (append-under weight n (calls_in test ++ calls_in_block block) (other_calls other)
      (append-under weight n (calls_in test) (calls_in_block block) is one) more)

  sets_few : (place : CPlace) (e : CExpr) → PlaceFew place → ExprFew e → StmtFew (c_set place e)
  sets_few place e one other = set_few weight prelude n place e one other

  flag_few : (view : ActivityView) (m : Node) → StmtFew (flagged_now view m)
  flag_few view m = sets_few (flag_place (node_word view m)) (c_truth true) (local_few (flag_name (node_word view m))) (truth_few true)

  freed_few : (view : ActivityView) (k : ℕ) → StmtFew (freed view k)
  freed_few view k = sets_few (counter_place k) (counter_value view.sizes k 0) (member_few (codes "f") (counter_name k)) (value_few view k 0)

  forgotten_few : (view : ActivityView) (k : ℕ) (read : Bool) → CodeFew (forgotten view k read)
  forgotten_few view k true =
      first_few weight prelude n (freed view k) (c_set (rested_place k) (counter_value view.sizes k 0) ∷ []) (freed_few view k)
      (one_few weight prelude n (c_set (rested_place k) (counter_value view.sizes k 0))
      (sets_few (rested_place k) (counter_value view.sizes k 0) (local_few (rested_name k)) (value_few view k 0)))
  forgotten_few view k false = one_few weight prelude n (freed view k) (freed_few view k)

  change_few : (view : ActivityView) (change : Change) → CodeFew (change_code view change)
  change_few view (SetsFlag m) = one_few weight prelude n (flagged_now view m) (flag_few view m)
  change_few view (SetsCounter slot) =
      one_few weight prelude n (c_set (counter_place slot.counter) (counter_value view.sizes slot.counter slot.value))
      (sets_few (counter_place slot.counter) (counter_value view.sizes slot.counter slot.value)
      (member_few (codes "f") (counter_name slot.counter)) (value_few view slot.counter slot.value))
  change_few view (ClearsCounter k) = one_few weight prelude n (freed view k) (freed_few view k)
  change_few view (ClearsBoth k) = forgotten_few view k (view.is_read k)
  change_few view (SetsMark m) =
      one_few weight prelude n (c_set (mark_place (node_word view m)) (c_truth true))
      (sets_few (mark_place (node_word view m)) (c_truth true) (local_few (mark_name (node_word view m))) (truth_few true))
  change_few view (EndsWhen start surface depth) =
      one_few weight prelude n
      (c_if (c_read (mark_place (node_word view start))) (flagged_now view surface ∷ []) (Some (flagged_now view depth ∷ [])))
      (if_few (c_read (mark_place (node_word view start))) (flagged_now view surface ∷ []) (Some (flagged_now view depth ∷ [])) (mark_few view start)
      (one_few weight prelude n (flagged_now view surface) (flag_few view surface))
      (one_few weight prelude n (flagged_now view depth) (flag_few view depth)))
  change_few view Finishes =
      one_few weight prelude n (c_set over_place (c_truth true)) (sets_few over_place (c_truth true) (pointed_few (codes "e")) (truth_few true))

  changes_few : (view : ActivityView) (changes : List Change) → CodeFew (changes_code view changes)
  changes_few view [] = none_few weight prelude n
  changes_few view (change ∷ rest) =
      then_few weight prelude n (change_code view change) (changes_code view rest) (change_few view change) (changes_few view rest)

  else_few : (code : List CStmt) → CodeFew code → Light weight prelude n (other_calls (else_code code))
  else_few [] all = none-under weight n
  else_few (s ∷ rest) all = all

  -- ---- what is done at nodes

  module _ (view : ActivityView) (by : ℕ → ℕ) (callees : (f : ℕ) → weight (name_of_callee (slice_get view.site.earlier f)) ≤ by f) where
    code_few : (e : Expr) → Under by n (calls_in_expr e) → ExprFew (code_made view.site e)
    code_few e few = expr_light weight prelude view.site by callees e n few

    path_few : (path : Path) → Under by n (calls_in_path path) → PlaceFew (stands view.site path).place
    path_few path few = path_light weight prelude view.site by callees path n few

    own_few : (k : ℕ) → PlaceFew (place_in view.site k [])
    own_few k = own_light weight prelude view.site by callees n k

    zeroed_few : (place : CPlace) (ty : Ty) (s : Option ScalarType) → PlaceFew place → StmtFew (c_zeroed view.site.structs place ty s)
    zeroed_few place ty (Some s) one = sets_few place (c_literal (c_scalar s) (pos 0)) one (literal-light weight prelude n (c_scalar s) (pos 0))
    zeroed_few place ty None one =
        same-light weight prelude n (calls_in_stmt (c_clear place (type_name view.site.structs ty))) (calls_in_place place)
        (clear-calls place (type_name view.site.structs ty)) one

    zero_few : (place : CPlace) (ty : Option Ty) → PlaceFew place → CodeFew (zeroed view.site.structs place ty)
    zero_few place (Some ty) one =
        one_few weight prelude n (c_zeroed view.site.structs place ty (scalar_in ty)) (zeroed_few place ty (scalar_in ty) one)
    zero_few place None one = none_few weight prelude n

    initial_few : (k : ℕ) (initial : Option Expr) → Under by n (optional_calls initial) → CodeFew (initial_code view.site k initial)
    initial_few k (Some e) few =
        one_few weight prelude n (c_set (place_in view.site k []) (code_made view.site e))
        (sets_few (place_in view.site k []) (code_made view.site e) (own_few k) (code_few e few))
    initial_few k None few = zero_few (place_in view.site k []) (type_at (var_at view.site k)) (own_few k)

    copied_few : (k : ℕ) → StmtFew (c_copied view.site k)
    copied_few k =
        sets_few (c_place false (copy_name view.site.vars k) []) (c_read (place_in view.site k [])) (local_few (copy_name view.site.vars k))
        (reads_few (place_in view.site k []) (own_few k))

    copy_few : (k : ℕ) (copied : Bool) → CodeFew (copy_code view.site copied k)
    copy_few k true = one_few weight prelude n (c_copied view.site k) (copied_few k)
    copy_few k false = none_few weight prelude n

    outputs_few : (outputs : List Path) → Under by n (joined (map calls_in_path outputs)) →
        Light weight prelude n (joined (map calls_in_arg (map (output_arg view.site) outputs)))
    outputs_few [] few = none-under weight n
    outputs_few (path ∷ outputs) few =
        append-under weight n (calls_in_arg (output_arg view.site path)) (joined (map calls_in_arg (map (output_arg view.site) outputs)))
        (same-light weight prelude n (calls_in_arg (output_arg view.site path)) (calls_in_place (stands view.site path).place)
        (address-calls (stands view.site path).place)
        (path_few path (front-under by n (calls_in_path path) (joined (map calls_in_path outputs)) few)))
        (outputs_few outputs (back-under by n (calls_in_path path) (joined (map calls_in_path outputs)) few))

    abbrev OfExpr : Expr → Type 0
    OfExpr e = (n : ℕ) → Under by n (calls_in_expr e) → Light weight prelude n (calls_in (code_of (made_of view.site e)))

    each_light : (inputs : List Expr) → All OfExpr inputs
    each_light [] = All-nil OfExpr
    each_light (e ∷ inputs) = All-cons OfExpr e inputs (expr_light weight prelude view.site by callees e) (each_light inputs)

    args_few : (inputs : List Expr) (outputs : List Path) → Under by n (argument_calls inputs outputs) →
        Light weight prelude n (joined (map calls_in_arg (call_args view.site inputs outputs)))
    args_few inputs outputs few =
        both-under weight n calls_in_arg (map arg_of (map (made_of view.site) inputs)) (map (output_arg view.site) outputs)
        (args_light weight prelude view.site by callees inputs (each_light inputs) n
        (front-under by n (joined (map calls_in_expr inputs)) (joined (map calls_in_path outputs)) few))
        (outputs_few outputs (back-under by n (joined (map calls_in_expr inputs)) (joined (map calls_in_path outputs)) few))

    -- a call of the unit at a position
    calling_few : (f : ℕ) (args : List CArg) → by f ≤ n → Light weight prelude n (joined (map calls_in_arg args)) →
        StmtFew (c_calling (c_call (name_of_callee (slice_get view.site.earlier f)) args))
    calling_few f args small few =
        let call = c_call (name_of_callee (slice_get view.site.earlier f)) args in
        same-light weight prelude n (calls_in_stmt (c_calling call)) _ (calling-calls call)
        (call-light weight prelude n (name_of_callee (slice_get view.site.earlier f)) args
        (callee_light weight prelude view.site by callees n f small) few)

    acted_by : (s : Stmt) (layer : StmtKind-F StmtKind Arm Branch Stmt) → Under by n (stmt_kind_calls (calls_inside layer)) →
        out-StmtKind (out-Stmt s).what ≡ layer → CodeFew (layer_acted view s layer)
    acted_by s (StmtKind-F.Return (Some e)) few is =
        one_few weight prelude n (c_set result_place (code_made view.site e))
        (sets_few result_place (code_made view.site e) (pointed_few (codes "r")) (code_few e few))
    acted_by s (StmtKind-F.Return None) few is = none_few weight prelude n
    acted_by s (StmtKind-F.Declare k initial) few is =
        subst CodeFew (sym (ap (layer_code view.site view.copies) is))
        (then_few weight prelude n (initial_code view.site k initial) (copy_code view.site (is_copied view.copies k) k) (initial_few k initial few)
        (copy_few k (is_copied view.copies k)))
    acted_by s (StmtKind-F.Assign path e) few is =
        subst CodeFew (sym (ap (layer_code view.site view.copies) is))
        (one_few weight prelude n (c_set (stands view.site path).place (code_made view.site e))
        (sets_few (stands view.site path).place (code_made view.site e)
        (path_few path (front-under by n (calls_in_path path) (calls_in_expr e) few))
        (code_few e (back-under by n (calls_in_path path) (calls_in_expr e) few))))
    acted_by s (StmtKind-F.Call f inputs outputs) few is =
        subst CodeFew (sym (ap (layer_code view.site view.copies) is))
        (one_few weight prelude n (c_calling (call_made view.site f inputs outputs))
        (calling_few f (call_args view.site inputs outputs) (head-under by n f (argument_calls inputs outputs) few)
        (args_few inputs outputs (tail-under by n f (argument_calls inputs outputs) few))))
    acted_by s (StmtKind-F.Await e) few is = subst CodeFew (sym (ap (layer_code view.site view.copies) is)) (none_few weight prelude n)
    acted_by s (StmtKind-F.Run target a inputs outputs) few is =
        subst CodeFew (sym (ap (layer_code view.site view.copies) is)) (none_few weight prelude n)
    acted_by s (StmtKind-F.If arms other) few is = subst CodeFew (sym (ap (layer_code view.site view.copies) is)) (none_few weight prelude n)
    acted_by s (StmtKind-F.Cobegin branches) few is = subst CodeFew (sym (ap (layer_code view.site view.copies) is)) (none_few weight prelude n)
    acted_by s (StmtKind-F.When guard e body) few is = subst CodeFew (sym (ap (layer_code view.site view.copies) is)) (none_few weight prelude n)
    acted_by s (StmtKind-F.Repeat body) few is = subst CodeFew (sym (ap (layer_code view.site view.copies) is)) (none_few weight prelude n)
    acted_by s (StmtKind-F.Until body e) few is = subst CodeFew (sym (ap (layer_code view.site view.copies) is)) (none_few weight prelude n)
    acted_by s (StmtKind-F.While e body) few is = subst CodeFew (sym (ap (layer_code view.site view.copies) is)) (none_few weight prelude n)

    acted_few : (s : Stmt) → Under by n (named_in s) → CodeFew (acted view s)
    acted_few s few =
        acted_by s (out-StmtKind (out-Stmt s).what) (subst (λ names. Under by n names) (calls_at s (out-StmtKind (out-Stmt s).what) refl) few) refl

    tested_few : (e : Expr) (rule : Transition) → Under by n (calls_in_expr e) → CodeFew (test_code view (code_made view.site e) rule)
    tested_few e rule few = chosen (spelled_truth (code_made view.site e))
      where
        chosen : (truth : Option Bool) →
            CodeFew (choice_code (code_made view.site e) truth (changes_code view rule.on_true) (changes_code view rule.on_false))
        chosen None =
            one_few weight prelude n (c_if (code_made view.site e) (changes_code view rule.on_true) (else_code (changes_code view rule.on_false)))
            (if_few (code_made view.site e) (changes_code view rule.on_true) (else_code (changes_code view rule.on_false)) (code_few e few)
            (changes_few view rule.on_true) (else_few (changes_code view rule.on_false) (changes_few view rule.on_false)))
        chosen (Some true) = changes_few view rule.on_true
        chosen (Some false) = changes_few view rule.on_false

    -- ---- runs

    where_few : (test : Bool) (place : CPlace) → PlaceFew place → Light weight prelude n (joined (map calls_in_arg (arg_where test (Address place))))
    where_few true place one =
        append-under weight n (calls_in_arg (Address place)) []
        (same-light weight prelude n (calls_in_arg (Address place)) (calls_in_place place) (address-calls place) one) (none-under weight n)
    where_few false place one = none-under weight n

    runs_few : (k : NumberedWord) (a : ℕ) (arguments : Arguments) → Under by n (argument_calls arguments.inputs arguments.outputs) →
        Light weight prelude n (joined (map calls_in_arg (run_args view k a arguments)))
    runs_few k a arguments few =
        let result = has_result (slice_get view.site.earlier a) in
        let ends = may_end_in (slice_get view.site.earlier a) in
        both-under weight n calls_in_arg (arg_where true (Address (callee_frame k)))
        (arg_where (view.remembers a) (Address (callee_memory k))
        ++ (call_args view.site arguments.inputs arguments.outputs
        ++ (arg_where result (Address (given_place k)) ++ arg_where ends (Address ended_place))))
        (where_few true (callee_frame k) (member_few (codes "f") (callee_name k)))
        (both-under weight n calls_in_arg (arg_where (view.remembers a) (Address (callee_memory k)))
        (call_args view.site arguments.inputs arguments.outputs
        ++ (arg_where result (Address (given_place k)) ++ arg_where ends (Address ended_place)))
        (where_few (view.remembers a) (callee_memory k) (member_few (codes "m") (callee_name k)))
        (both-under weight n calls_in_arg (call_args view.site arguments.inputs arguments.outputs)
        (arg_where result (Address (given_place k)) ++ arg_where ends (Address ended_place))
        (args_few arguments.inputs arguments.outputs few)
        (both-under weight n calls_in_arg (arg_where result (Address (given_place k))) (arg_where ends (Address ended_place))
        (where_few result (given_place k) (local_few (given_name k))) (where_few ends ended_place (local_few ended_name)))))

    where_few_code : (test : Bool) (s : CStmt) → StmtFew s → CodeFew (stmt_where test s)
    where_few_code true s few = one_few weight prelude n s few
    where_few_code false s few = none_few weight prelude n

    run_few : (k : NumberedWord) (a : ℕ) (arguments : Arguments) →
        Under by n (a ∷ (target_calls arguments.target ++ argument_calls arguments.inputs arguments.outputs)) →
        CodeFew (run_code view k a arguments)
    run_few k a arguments few =
        let rest = tail-under by n a (target_calls arguments.target ++ argument_calls arguments.inputs arguments.outputs) few in
        let call = c_calling (c_call (name_of_callee (slice_get view.site.earlier a)) (run_args view k a arguments)) in
        let ends = may_end_in (slice_get view.site.earlier a) in
        then_few weight prelude n (stmt_where ends (c_set ended_place (c_truth false))) (call ∷ [])
        (where_few_code ends (c_set ended_place (c_truth false)) (sets_few ended_place (c_truth false) (local_few ended_name) (truth_few false)))
        (one_few weight prelude n call
        (calling_few a (run_args view k a arguments)
        (head-under by n a (target_calls arguments.target ++ argument_calls arguments.inputs arguments.outputs) few)
        (runs_few k a arguments
        (back-under by n (target_calls arguments.target) (argument_calls arguments.inputs arguments.outputs) rest))))

    target_few : (k : NumberedWord) (target : Option Path) → Under by n (target_calls target) → CodeFew (target_code view k target)
    target_few k (Some path) few =
        one_few weight prelude n (c_set (stands view.site path).place (c_read (given_place k)))
        (sets_few (stands view.site path).place (c_read (given_place k)) (path_few path few)
        (reads_few (given_place k) (local_few (given_name k))))
    target_few k None few = none_few weight prelude n

    begun_few : (k : NumberedWord) (a : ℕ) (rule : Transition) → CodeFew (begun_code view k a rule)
    begun_few k a rule =
        let clear = c_clear (callee_frame k) (frame_name (name_in (slice_get view.site.earlier a))) in
        first_few weight prelude n clear (changes_code view rule.on_true)
        (same-light weight prelude n (calls_in_stmt clear) (calls_in_place (callee_frame k))
        (clear-calls (callee_frame k) (frame_name (name_in (slice_get view.site.earlier a)))) (member_few (codes "f") (callee_name k)))
        (changes_few view rule.on_true)

    resumed_few : (k : NumberedWord) (a : ℕ) (arguments : Arguments) (rule : Transition) →
        Under by n (a ∷ (target_calls arguments.target ++ argument_calls arguments.inputs arguments.outputs)) →
        CodeFew (resumed_code view k a arguments rule)
    resumed_few k a arguments rule few =
        let rest = tail-under by n a (target_calls arguments.target ++ argument_calls arguments.inputs arguments.outputs) few in
        let block = target_code view k arguments.target ++ changes_code view rule.on_true in
        let ends : Bool = may_end_in (slice_get view.site.earlier a) in
        then_few weight prelude n (run_code view k a arguments) (stmt_where ends (c_if (c_read ended_place) block None)) (run_few k a arguments few)
        (where_few_code ends (c_if (c_read ended_place) block None)
        (if_few (c_read ended_place) block None (reads_few ended_place (local_few ended_name))
        (then_few weight prelude n (target_code view k arguments.target) (changes_code view rule.on_true)
        (target_few k arguments.target
        (front-under by n (target_calls arguments.target) (argument_calls arguments.inputs arguments.outputs) rest))
        (changes_few view rule.on_true)) (none-under weight n)))

    -- ---- blocks

    itself_few : (a : ℕ) (rule : Transition) (m : Node) → Under by n (node_calls a m) → CodeFew (own_code view a rule m)
    itself_few a rule (ActAt l s) few = acted_few s few
    itself_few a rule (TestAt l at e) few = none_few weight prelude n
    itself_few a rule (CheckAt l at e) few = none_few weight prelude n
    itself_few a rule (EnterAt l at arguments) few = begun_few (word_at view at a) a rule
    itself_few a rule (ResumeAt l at arguments) few = none_few weight prelude n
    itself_few a rule (PauseAt l at) few = none_few weight prelude n
    itself_few a rule (HeadAt l at) few = none_few weight prelude n
    itself_few a rule (StartAt l at) few = none_few weight prelude n
    itself_few a rule (SurfaceEndAt l at) few = none_few weight prelude n
    itself_few a rule (DepthEndAt l at) few = none_few weight prelude n
    itself_few a rule (ForkAt l at) few = none_few weight prelude n
    itself_few a rule (SurfaceJoinAt l at) few = none_few weight prelude n
    itself_few a rule (DepthJoinAt l at) few = none_few weight prelude n

    control_few : (a : ℕ) (rule : Transition) (m : Node) → Under by n (node_calls a m) → CodeFew (control_code view a rule m)
    control_few a rule (ActAt l s) few = changes_few view rule.on_true
    control_few a rule (TestAt l at e) few = tested_few e rule few
    control_few a rule (CheckAt l at e) few = tested_few e rule few
    control_few a rule (EnterAt l at arguments) few = run_few (word_at view at a) a arguments few
    control_few a rule (ResumeAt l at arguments) few = resumed_few (word_at view at a) a arguments rule few
    control_few a rule (PauseAt l at) few = changes_few view rule.on_true
    control_few a rule (HeadAt l at) few = changes_few view rule.on_true
    control_few a rule (StartAt l at) few = changes_few view rule.on_true
    control_few a rule (SurfaceEndAt l at) few = changes_few view rule.on_true
    control_few a rule (DepthEndAt l at) few = changes_few view rule.on_true
    control_few a rule (ForkAt l at) few = changes_few view rule.on_true
    control_few a rule (SurfaceJoinAt l at) few = changes_few view rule.on_true
    control_few a rule (DepthJoinAt l at) few = changes_few view rule.on_true

    -- what a turn asks and does
    abbrev TurnFew : NodeCode → Type 0
    TurnFew turn = ExprFew turn.test × (CodeFew turn.own × CodeFew turn.control)

    turn_few : (a : ℕ) (rule : Transition) → Under by n (node_calls a rule.node) → TurnFew (node_turn view a rule)
    turn_few a rule few = (guard_few view rule.node rule.condition, (itself_few a rule rule.node few, control_few a rule rule.node few))

    -- each of some turns
    abbrev EachFew : List NodeCode → Type 0
    EachFew [] = Unit {0}
    EachFew (turn ∷ rest) = TurnFew turn × EachFew rest

    each_few : (cs : List ℕ) (listed : List Transition) → AllUnder by n cs (map (λ (rule : Transition). rule.node) listed) →
        EachFew (turns_of view cs listed)
    each_few [] listed all = tt
    each_few (c ∷ cs) [] all = tt
    each_few (c ∷ cs) (rule ∷ listed) all = (turn_few c rule all.0, each_few cs listed all.1)

    append_few : (turns more : List NodeCode) → EachFew turns → EachFew more → EachFew (turns ++ more)
    append_few [] more all rest = rest
    append_few (turn ∷ turns) more all rest = (all.0, append_few turns more all.1 rest)

    one_of : (turns : List NodeCode) (k : ℕ) → EachFew turns → EachFew (option_to_list (slice_get turns k))
    one_of [] k all = tt
    one_of (turn ∷ rest) zero all = (all.0, tt)
    one_of (turn ∷ rest) (suc k) all = one_of rest k all.1

    picked_few : (turns : List NodeCode) (block : List ℕ) → EachFew turns → EachFew (picked turns block)
    picked_few turns [] all = tt
    picked_few turns (k ∷ block) all =
        append_few (option_to_list (slice_get turns k)) (picked turns block) (one_of turns k all) (picked_few turns block all)

    alone_few : (test : CExpr) (code : List CStmt) → ExprFew test → CodeFew code → StmtFew (c_if test code None)
    alone_few test code is one = if_few test code None is one (none-under weight n)

    unless_few : (leaves : Bool) (turn : NodeCode) → CodeFew turn.control → CodeFew (control_unless leaves turn)
    unless_few true turn all = none_few weight prelude n
    unless_few false turn all = all

    fused_few : (leaves : Bool) (turn : NodeCode) (turns : List NodeCode) → TurnFew turn → EachFew turns → CodeFew (fused_code leaves turn turns)
    fused_few leaves last [] own all =
        then_few weight prelude n last.own (control_unless leaves last) own.1.0 (unless_few leaves last own.1.1)
    fused_few leaves turn (next ∷ rest) own all =
        then_few weight prelude n turn.own (fused_code leaves next rest) own.1.0 (fused_few leaves next rest all.0 all.1)

    entered_few : (before : Option ℕ) (test : CExpr) → ExprFew test → ExprFew (entered_by view.word before test)
    entered_few None test is = is
    entered_few (Some k) test is =
        let k : NumberedWord = with_word view.word k in
        two-light weight prelude n Or (c_read (flag_place k)) test (reads_few (flag_place k) (local_few (flag_name k))) is

    merged_few : (before : Option ℕ) (leaves : Bool) (turns : List NodeCode) → EachFew turns → CodeFew (merged_code view.word before leaves turns)
    merged_few before leaves [] all = none_few weight prelude n
    merged_few before leaves (first ∷ rest) all =
        one_few weight prelude n (c_if (entered_by view.word before first.test) (fused_code leaves first rest) None)
        (alone_few (entered_by view.word before first.test) (fused_code leaves first rest) (entered_few before first.test all.0.0)
        (fused_few leaves first rest all.0 all.1))

    merged_blocks_few : (turns : List NodeCode) → EachFew turns → (before : Option ℕ) (blocks : List (List ℕ)) →
        CodeFew (all_merged view.word before (map (picked turns) blocks))
    merged_blocks_few turns all before [] = none_few weight prelude n
    merged_blocks_few turns all before (block ∷ rest) =
        let left : Option ℕ = leaving_flag (picked turns block) (next_turn (map (picked turns) rest)) in
        then_few weight prelude n (merged_code view.word before (is_some left) (picked turns block)) (all_merged view.word left (map (picked turns) rest))
        (merged_few before (is_some left) (picked turns block) (picked_few turns block all)) (merged_blocks_few turns all left rest)

    blocks_few : (turns : List NodeCode) (blocks : List (List ℕ)) → EachFew turns → CodeFew (blocks_code view.word turns blocks)
    blocks_few turns blocks all = merged_blocks_few turns all None blocks

    -- ---- what stands before the blocks

    resteds_few : (counters : List ℕ) → CodeFew (map rested_code counters)
    resteds_few [] = none_few weight prelude n
    resteds_few (k ∷ rest) =
        first_few weight prelude n (rested_code k) (map rested_code rest)
        (sets_few (rested_place k) (c_read (counter_place k)) (local_few (rested_name k))
        (reads_few (counter_place k) (member_few (codes "f") (counter_name k)))) (resteds_few rest)

    first_few_place : (copied : Bool) → PlaceFew (entry_place copied)
    first_few_place true = local_few (rested_name 0)
    first_few_place false = member_few (codes "f") (counter_name 0)

    entry_few : (body : Block) → CodeFew (entry_code view body)
    entry_few Done = none_few weight prelude n
    entry_few (Then s rest) =
        let first : CPlace = entry_place (view.is_read 0) in
        one_few weight prelude n (c_set (flag_place (node_word view (entry s))) (c_two Eq (c_read first) (counter_value view.sizes 0 0)))
        (sets_few (flag_place (node_word view (entry s))) (c_two Eq (c_read first) (counter_value view.sizes 0 0))
        (local_few (flag_name (node_word view (entry s))))
        (two-light weight prelude n Eq (c_read first) (counter_value view.sizes 0 0)
        (reads_few first (first_few_place (view.is_read 0))) (value_few view 0 0)))

    copies_few : (ks : List ℕ) → CodeFew (map (c_copied view.site) ks)
    copies_few [] = none_few weight prelude n
    copies_few (k ∷ rest) = first_few weight prelude n (c_copied view.site k) (map (c_copied view.site) rest) (copied_few k) (copies_few rest)

-- the C of an activity calls what is called at its nodes
pub activity_few : (weight : Text → ℕ) (prelude : (word : Text) (s : ScalarType) → weight (function_name word s) ≡ 0) (n : ℕ) (a : Activity)
    (by : ℕ → ℕ) → ((f : ℕ) → weight (name_of_callee (slice_get a.earlier f)) ≤ by f) →
    AllUnder by n (callees_in (body_of a)) (map (λ (rule : Transition). rule.node) (rules_at a)) → Few weight prelude n (activity_code a)
activity_few weight prelude n a by callees all =
    then_few weight prelude n (map rested_code (counters_read a))
    (entry_code (activity_view a) (body_of a) ++ (map (c_copied (activity_view a).site) (copied_in a) ++ blocks_in_order a))
    (resteds_few weight prelude n (activity_view a) by callees (counters_read a))
    (then_few weight prelude n (entry_code (activity_view a) (body_of a)) (map (c_copied (activity_view a).site) (copied_in a) ++ blocks_in_order a)
    (entry_few weight prelude n (activity_view a) by callees (body_of a))
    (then_few weight prelude n (map (c_copied (activity_view a).site) (copied_in a)) (blocks_in_order a)
    (copies_few weight prelude n (activity_view a) by callees (copied_in a))
    (blocks_few weight prelude n (activity_view a) by callees (turns_in_source a) a.blocks
    (each_few weight prelude n (activity_view a) by callees (callees_in (body_of a)) (rules_at a) all))))
