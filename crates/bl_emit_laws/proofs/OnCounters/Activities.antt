-- The C function of an activity names its own counters alone.
use Rattle.std.proofs.Common.{◌≡◌, ℕ, zero, suc, Bool, true, false, List, [], ◌∷◌, ◌++◌, map, Option, Some, None, refl, sym, ap, subst, codes}
use Rattle.std.specs.Prelude.{is_some, option_to_list, slice_get}
use Rattle.bl_tree.specs.declared.c.CArg.TheVariants.{Address}
use Rattle.bl_tree.specs.declared.c.CExpr.{CExpr}
use Rattle.bl_tree.specs.declared.c.CPlace.{CPlace}
use Rattle.bl_tree.specs.declared.c.CStmt.{CStmt}
use Rattle.bl_tree.specs.declared.scalar.Op.TheVariants.{Eq, Or}
use Rattle.bl_tree.specs.declared.tree.Arm.{Arm}
use Rattle.bl_tree.specs.declared.tree.Branch.{Branch}
use Rattle.bl_tree.specs.declared.tree.Expr.{Expr}
use Rattle.bl_tree.specs.declared.tree.Path.{Path}
use Rattle.bl_tree.specs.declared.tree.Stmt.{Stmt, out-Stmt}
use Rattle.bl_tree.specs.declared.tree.StmtKind.{StmtKind, out-StmtKind}
use Rattle.bl_tree.specs.declared.tree.StmtKind.TheOpen.{StmtKind-F}
use Rattle.bl_graph_nodes.specs.Nodes.{ActAt, Arguments, CheckAt, DepthEndAt, DepthJoinAt, EnterAt, ForkAt, HeadAt, Node, PauseAt, ResumeAt, StartAt}
use Rattle.bl_graph_nodes.specs.Nodes.{SurfaceEndAt, SurfaceJoinAt, TestAt, entry}
use Rattle.bl_graph_nodes.specs.Plain.{Block, Done, Then}
use Rattle.bl_emit_acts.specs.Acts.{c_calling, c_clear, c_copied, c_set, call_args, code_made, layer_code, name_of_callee}
use Rattle.bl_emit_acts.specs.Expressions.{stands}
use Rattle.bl_emit_acts.specs.Trees.{c_call, c_read, c_two}
use Rattle.bl_emit_functions.specs.Statements.{else_code}
use Rattle.bl_emit_functions.specs.Trees.{c_if, c_truth}
use Rattle.bl_machine_pass.specs.Transitions.{Transition}
use Rattle.bl_emit_spec.specs.Activities.{Activity, activity_function, activity_view, blocks_in_order, body_of, callees_in, copied_in, counters_read}
use Rattle.bl_emit_spec.specs.Activities.{entry_code, entry_place, picked, rested_code, rules_at, turns_in_source}
use Rattle.bl_emit_spec.specs.Blocks.{ActivityView, NodeCode, acted, all_merged, arg_where, begun_code, changes_code, choice_code, control_code, control_unless}
use Rattle.bl_emit_spec.specs.Blocks.{counter_value, entered_by, fused_code, has_result, layer_acted, leaving_flag, may_end_in, merged_code, name_in, next_turn}
use Rattle.bl_emit_spec.specs.Blocks.{node_word, own_code, resumed_code, run_args, run_code, spelled_truth, stmt_where, target_code, test_code, turns_of}
use Rattle.bl_emit_spec.specs.Blocks.{word_at}
use Rattle.bl_emit_spec.specs.Names.{NumberedWord, callee_frame, callee_memory, callee_name, counter_name, counter_place, ended_name, ended_place, flag_name}
use Rattle.bl_emit_spec.specs.Names.{flag_place, frame_name, given_name, given_place, rested_name, rested_place, result_place, with_word}
use Rattle.bl_ctext_places.specs.Counters.{names_counter}
use Rattle.bl_ctext_places.specs.Places.{CPath, places_in_arg, places_named}
use Rattle.bl_emit_laws.proofs.OnCounters.Expressions.{ArgsFine, ExprFine, PlaceFine, address-fine, expr_fine, first-arg, path_fine, root-fine, two-fine}
use Rattle.bl_emit_laws.proofs.OnCounters.Fine.{Fine, both-fine}
use Rattle.bl_emit_laws.proofs.OnCounters.Functions.{under-fine}
use Rattle.bl_emit_laws.proofs.OnCounters.Guards.{changes_fine, counter_read, guard_fine, local_fine, local_read, own_counter, value_fine}
use Rattle.bl_emit_laws.proofs.OnCounters.Statements.{CodeFine, StmtFine, assigned_fine, call_args_fine, call_fine, calling-fine, clear-fine, copy-fine}
use Rattle.bl_emit_laws.proofs.OnCounters.Statements.{declared_fine, else-fine, first_stmt, if-fine, one_stmt, set-fine, then_code, where_code, truth-fine}

module _ (P : CPath → Type 0) (plain : (place : CPath) → names_counter place ≡ false → P place) (own : (k : ℕ) → P (own_counter (counter_name k)))
    (view : ActivityView) where
  code_fine : (e : Expr) → ExprFine P plain (code_made view.site e)
  code_fine e = expr_fine P plain view.site e

  -- ---- acts

  acted_by : (s : Stmt) (layer : StmtKind-F StmtKind Arm Branch Stmt) → out-StmtKind (out-Stmt s).what ≡ layer →
      CodeFine P plain (layer_acted view s layer)
  acted_by s (StmtKind-F.Return (Some e)) is =
      one_stmt P plain (c_set result_place (code_made view.site e))
      (set-fine P plain result_place (code_made view.site e) (root-fine P plain true (codes "r")) (code_fine e))
  acted_by s (StmtKind-F.Return None) is = tt
  acted_by s (StmtKind-F.Declare k initial) is =
      subst (CodeFine P plain) (sym (ap (layer_code view.site view.copies) is)) (declared_fine P plain view.site view.copies k initial)
  acted_by s (StmtKind-F.Assign path e) is =
      subst (CodeFine P plain) (sym (ap (layer_code view.site view.copies) is)) (assigned_fine P plain view.site path e)
  acted_by s (StmtKind-F.Call f inputs outputs) is =
      subst (CodeFine P plain) (sym (ap (layer_code view.site view.copies) is)) (call_fine P plain view.site f inputs outputs)
  acted_by s (StmtKind-F.Await e) is = subst (CodeFine P plain) (sym (ap (layer_code view.site view.copies) is)) tt
  acted_by s (StmtKind-F.Run target a inputs outputs) is = subst (CodeFine P plain) (sym (ap (layer_code view.site view.copies) is)) tt
  acted_by s (StmtKind-F.If arms other) is = subst (CodeFine P plain) (sym (ap (layer_code view.site view.copies) is)) tt
  acted_by s (StmtKind-F.Cobegin branches) is = subst (CodeFine P plain) (sym (ap (layer_code view.site view.copies) is)) tt
  acted_by s (StmtKind-F.When guard e body) is = subst (CodeFine P plain) (sym (ap (layer_code view.site view.copies) is)) tt
  acted_by s (StmtKind-F.Repeat body) is = subst (CodeFine P plain) (sym (ap (layer_code view.site view.copies) is)) tt
  acted_by s (StmtKind-F.Until body e) is = subst (CodeFine P plain) (sym (ap (layer_code view.site view.copies) is)) tt
  acted_by s (StmtKind-F.While e body) is = subst (CodeFine P plain) (sym (ap (layer_code view.site view.copies) is)) tt

  acted_fine : (s : Stmt) → CodeFine P plain (acted view s)
  acted_fine s = acted_by s (out-StmtKind (out-Stmt s).what) refl

  tested_fine : (e : Expr) (rule : Transition) → CodeFine P plain (test_code view (code_made view.site e) rule)
  tested_fine e rule = by (spelled_truth (code_made view.site e))
    where
      by : (truth : Option Bool) →
          CodeFine P plain (choice_code (code_made view.site e) truth (changes_code view rule.on_true) (changes_code view rule.on_false))
      by None =
          one_stmt P plain (c_if (code_made view.site e) (changes_code view rule.on_true) (else_code (changes_code view rule.on_false)))
          (if-fine P plain (code_made view.site e) (changes_code view rule.on_true) (else_code (changes_code view rule.on_false)) (code_fine e)
          (changes_fine P plain own view rule.on_true)
          (else-fine P plain (changes_code view rule.on_false) (changes_fine P plain own view rule.on_false)))
      by (Some true) = changes_fine P plain own view rule.on_true
      by (Some false) = changes_fine P plain own view rule.on_false

  -- ---- runs

  where_fine : (test : Bool) (place : CPlace) → PlaceFine P plain place → ArgsFine P plain (arg_where test (Address place))
  where_fine true place one = first-arg P plain (Address place) [] (address-fine P plain place one) tt
  where_fine false place one = tt

  frame_fine : (k : NumberedWord) → PlaceFine P plain (callee_frame k)
  frame_fine k = under-fine P plain (codes "f") (callee_name k) refl

  runs_fine : (k : NumberedWord) (a : ℕ) (arguments : Arguments) → ArgsFine P plain (run_args view k a arguments)
  runs_fine k a arguments =
      let result = has_result (slice_get view.site.earlier a) in
      let given = call_args view.site arguments.inputs arguments.outputs in
      let ends = may_end_in (slice_get view.site.earlier a) in
      let last = arg_where result (Address (given_place k)) ++ arg_where ends (Address ended_place) in
      first-arg P plain (Address (callee_frame k)) (arg_where (view.remembers a) (Address (callee_memory k)) ++ (given ++ last))
      (address-fine P plain (callee_frame k) (frame_fine k))
      (both-fine P places_in_arg (arg_where (view.remembers a) (Address (callee_memory k))) (given ++ last)
      (where_fine (view.remembers a) (callee_memory k) (under-fine P plain (codes "m") (callee_name k) refl))
      (both-fine P places_in_arg given last (call_args_fine P plain view.site arguments.inputs arguments.outputs)
      (both-fine P places_in_arg (arg_where result (Address (given_place k))) (arg_where ends (Address ended_place))
      (where_fine result (given_place k) (local_fine P plain own (given_name k)))
      (where_fine ends ended_place (local_fine P plain own ended_name)))))

  run_fine : (k : NumberedWord) (a : ℕ) (arguments : Arguments) → CodeFine P plain (run_code view k a arguments)
  run_fine k a arguments =
      let call : CStmt = c_calling (c_call (name_of_callee (slice_get view.site.earlier a)) (run_args view k a arguments)) in
      let ends : Bool = may_end_in (slice_get view.site.earlier a) in
      then_code P plain (stmt_where ends (c_set ended_place (c_truth false))) (call ∷ [])
      (where_code P plain ends (c_set ended_place (c_truth false))
      (set-fine P plain ended_place (c_truth false) (local_fine P plain own ended_name) (truth-fine P plain false)))
      (one_stmt P plain call
      (calling-fine P plain (name_of_callee (slice_get view.site.earlier a)) (run_args view k a arguments) (runs_fine k a arguments)))

  target_fine : (k : NumberedWord) (target : Option Path) → CodeFine P plain (target_code view k target)
  target_fine k (Some path) =
      one_stmt P plain (c_set (stands view.site path).place (c_read (given_place k)))
      (set-fine P plain (stands view.site path).place (c_read (given_place k)) (path_fine P plain view.site path)
      (local_read P plain own (given_name k)))
  target_fine k None = tt

  begun_fine : (k : NumberedWord) (a : ℕ) (rule : Transition) → CodeFine P plain (begun_code view k a rule)
  begun_fine k a rule =
      let name = frame_name (name_in (slice_get view.site.earlier a)) in
      first_stmt P plain (c_clear (callee_frame k) name) (changes_code view rule.on_true) (clear-fine P plain (callee_frame k) name (frame_fine k))
      (changes_fine P plain own view rule.on_true)

  resumed_fine : (k : NumberedWord) (a : ℕ) (arguments : Arguments) (rule : Transition) → CodeFine P plain (resumed_code view k a arguments rule)
  resumed_fine k a arguments rule =
      let block : List CStmt = target_code view k arguments.target ++ changes_code view rule.on_true in
      let ends : Bool = may_end_in (slice_get view.site.earlier a) in
      then_code P plain (run_code view k a arguments) (stmt_where ends (c_if (c_read ended_place) block None)) (run_fine k a arguments)
      (where_code P plain ends (c_if (c_read ended_place) block None)
      (if-fine P plain (c_read ended_place) block None (local_read P plain own ended_name)
      (then_code P plain (target_code view k arguments.target) (changes_code view rule.on_true) (target_fine k arguments.target)
      (changes_fine P plain own view rule.on_true)) tt))

  -- ---- blocks

  own_fine : (a : ℕ) (rule : Transition) (m : Node) → CodeFine P plain (own_code view a rule m)
  own_fine a rule (ActAt l s) = acted_fine s
  own_fine a rule (TestAt l at e) = tt
  own_fine a rule (CheckAt l at e) = tt
  own_fine a rule (EnterAt l at arguments) = begun_fine (word_at view at a) a rule
  own_fine a rule (ResumeAt l at arguments) = tt
  own_fine a rule (PauseAt l at) = tt
  own_fine a rule (HeadAt l at) = tt
  own_fine a rule (StartAt l at) = tt
  own_fine a rule (SurfaceEndAt l at) = tt
  own_fine a rule (DepthEndAt l at) = tt
  own_fine a rule (ForkAt l at) = tt
  own_fine a rule (SurfaceJoinAt l at) = tt
  own_fine a rule (DepthJoinAt l at) = tt

  control_fine : (a : ℕ) (rule : Transition) (m : Node) → CodeFine P plain (control_code view a rule m)
  control_fine a rule (ActAt l s) = changes_fine P plain own view rule.on_true
  control_fine a rule (TestAt l at e) = tested_fine e rule
  control_fine a rule (CheckAt l at e) = tested_fine e rule
  control_fine a rule (EnterAt l at arguments) = run_fine (word_at view at a) a arguments
  control_fine a rule (ResumeAt l at arguments) = resumed_fine (word_at view at a) a arguments rule
  control_fine a rule (PauseAt l at) = changes_fine P plain own view rule.on_true
  control_fine a rule (HeadAt l at) = changes_fine P plain own view rule.on_true
  control_fine a rule (StartAt l at) = changes_fine P plain own view rule.on_true
  control_fine a rule (SurfaceEndAt l at) = changes_fine P plain own view rule.on_true
  control_fine a rule (DepthEndAt l at) = changes_fine P plain own view rule.on_true
  control_fine a rule (ForkAt l at) = changes_fine P plain own view rule.on_true
  control_fine a rule (SurfaceJoinAt l at) = changes_fine P plain own view rule.on_true
  control_fine a rule (DepthJoinAt l at) = changes_fine P plain own view rule.on_true

  -- what a turn asks and does
  abbrev TurnFine : NodeCode → Type 0
  TurnFine turn = ExprFine P plain turn.test × (CodeFine P plain turn.own × CodeFine P plain turn.control)

  -- each of some turns
  abbrev EachFine : List NodeCode → Type 0
  EachFine [] = Unit {0}
  EachFine (turn ∷ rest) = TurnFine turn × EachFine rest

  each_fine : (callees : List ℕ) (listed : List Transition) → EachFine (turns_of view callees listed)
  each_fine [] listed = tt
  each_fine (a ∷ callees) [] = tt
  each_fine (a ∷ callees) (rule ∷ listed) =
      ((guard_fine P plain own view rule.node rule.condition, (own_fine a rule rule.node, control_fine a rule rule.node)), each_fine callees listed)

  append_fine : (turns more : List NodeCode) → EachFine turns → EachFine more → EachFine (turns ++ more)
  append_fine [] more all rest = rest
  append_fine (turn ∷ turns) more all rest = (all.0, append_fine turns more all.1 rest)

  one_of : (turns : List NodeCode) (k : ℕ) → EachFine turns → EachFine (option_to_list (slice_get turns k))
  one_of [] k all = tt
  one_of (turn ∷ rest) zero all = (all.0, tt)
  one_of (turn ∷ rest) (suc k) all = one_of rest k all.1

  picked_fine : (turns : List NodeCode) (block : List ℕ) → EachFine turns → EachFine (picked turns block)
  picked_fine turns [] all = tt
  picked_fine turns (k ∷ block) all =
      append_fine (option_to_list (slice_get turns k)) (picked turns block) (one_of turns k all) (picked_fine turns block all)

  alone_fine : (test : CExpr) (code : List CStmt) → ExprFine P plain test → CodeFine P plain code → StmtFine P plain (c_if test code None)
  alone_fine test code is block = if-fine P plain test code None is block tt

  unless_fine : (leaves : Bool) (turn : NodeCode) → TurnFine turn → CodeFine P plain (control_unless leaves turn)
  unless_fine true turn one = tt
  unless_fine false turn one = one.1.1

  fused_fine : (leaves : Bool) (turn : NodeCode) (turns : List NodeCode) → TurnFine turn → EachFine turns → CodeFine P plain (fused_code leaves turn turns)
  fused_fine leaves last [] one all = then_code P plain last.own (control_unless leaves last) one.1.0 (unless_fine leaves last one)
  fused_fine leaves turn (next ∷ rest) one all =
      then_code P plain turn.own (fused_code leaves next rest) one.1.0 (fused_fine leaves next rest all.0 all.1)

  entered_fine : (before : Option ℕ) (test : CExpr) → ExprFine P plain test → ExprFine P plain (entered_by view.word before test)
  entered_fine None test is = is
  entered_fine (Some k) test is =
      let k : NumberedWord = with_word view.word k in
      two-fine P plain Or (c_read (flag_place k)) test (local_read P plain own (flag_name k)) is

  merged_fine : (before : Option ℕ) (leaves : Bool) (turns : List NodeCode) → EachFine turns → CodeFine P plain (merged_code view.word before leaves turns)
  merged_fine before leaves [] all = tt
  merged_fine before leaves (first ∷ rest) all =
      one_stmt P plain (c_if (entered_by view.word before first.test) (fused_code leaves first rest) None)
      (alone_fine (entered_by view.word before first.test) (fused_code leaves first rest) (entered_fine before first.test all.0.0)
      (fused_fine leaves first rest all.0 all.1))

  blocks_fine : (turns : List NodeCode) (before : Option ℕ) (blocks : List (List ℕ)) → EachFine turns →
      CodeFine P plain (all_merged view.word before (map (picked turns) blocks))
  blocks_fine turns before [] all = tt
  blocks_fine turns before (block ∷ rest) all =
      let left : Option ℕ = leaving_flag (picked turns block) (next_turn (map (picked turns) rest)) in
      then_code P plain (merged_code view.word before (is_some left) (picked turns block)) (all_merged view.word left (map (picked turns) rest))
      (merged_fine before (is_some left) (picked turns block) (picked_fine turns block all)) (blocks_fine turns left rest all)

  -- ---- what stands before the blocks

  resteds_fine : (counters : List ℕ) → CodeFine P plain (map rested_code counters)
  resteds_fine [] = tt
  resteds_fine (k ∷ rest) =
      first_stmt P plain (rested_code k) (map rested_code rest)
      (set-fine P plain (rested_place k) (c_read (counter_place k)) (local_fine P plain own (rested_name k)) (counter_read P plain own k))
      (resteds_fine rest)

  first_read : (copied : Bool) → ExprFine P plain (c_read (entry_place copied))
  first_read true = local_read P plain own (rested_name 0)
  first_read false = counter_read P plain own 0

  entry_fine : (body : Block) → CodeFine P plain (entry_code view body)
  entry_fine Done = tt
  entry_fine (Then s rest) =
      let first : CExpr = c_read (entry_place (view.is_read 0)) in
      one_stmt P plain (c_set (flag_place (node_word view (entry s))) (c_two Eq first (counter_value view.sizes 0 0)))
      (set-fine P plain (flag_place (node_word view (entry s))) (c_two Eq first (counter_value view.sizes 0 0))
      (local_fine P plain own (flag_name (node_word view (entry s))))
      (two-fine P plain Eq first (counter_value view.sizes 0 0) (first_read (view.is_read 0)) (value_fine P plain own view 0 0)))

  copies_fine : (ks : List ℕ) → CodeFine P plain (map (c_copied view.site) ks)
  copies_fine [] = tt
  copies_fine (k ∷ rest) =
      first_stmt P plain (c_copied view.site k) (map (c_copied view.site) rest) (copy-fine P plain view.site k) (copies_fine rest)

-- the C function of an activity names counters of its own alone
pub activity-fine : (P : CPath → Type 0) (plain : (place : CPath) → names_counter place ≡ false → P place) →
    ((k : ℕ) → P (own_counter (counter_name k))) → (a : Activity) → Fine P (places_named (activity_function a))
activity-fine P plain own a =
    let view : ActivityView = activity_view a in
    let blocks : List CStmt = blocks_in_order a in
    let copies : List CStmt = map (c_copied view.site) (copied_in a) in
    then_code P plain (map rested_code (counters_read a)) (entry_code view (body_of a) ++ (copies ++ blocks))
    (resteds_fine P plain own view (counters_read a))
    (then_code P plain (entry_code view (body_of a)) (copies ++ blocks) (entry_fine P plain own view (body_of a))
    (then_code P plain copies blocks (copies_fine P plain own view (copied_in a))
    (blocks_fine P plain own view (turns_in_source a) None a.blocks (each_fine P plain own view (callees_in (body_of a)) (rules_at a)))))
