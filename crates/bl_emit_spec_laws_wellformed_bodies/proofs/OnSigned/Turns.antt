-- The C of an activity has no loops.
use Rattle.std.proofs.lemmas.Option.{same_Some}
use Rattle.std.proofs.Common.{◌≡◌, ℕ, zero, suc, Bool, true, false, List, [], ◌∷◌, ◌++◌, map, Option, Some, None, refl, ◌∙◌, subst}
use Rattle.std.specs.Prelude.{is_some, option_to_list, slice_get, ⊤}
use Rattle.bl_tree.specs.declared.text.Text.{Text}
use Rattle.bl_tree.specs.declared.c.CCall.{CCall}
use Rattle.bl_tree.specs.declared.c.CExpr.{CExpr}
use Rattle.bl_tree.specs.declared.c.CPlace.{CPlace}
use Rattle.bl_tree.specs.declared.c.CStmt.{CStmt, fold-roll-CStmt}
use Rattle.bl_tree.specs.declared.c.CStmtKind.{CStmtKind-F, fold-roll-CStmtKind}
use Rattle.bl_tree.specs.declared.c.CStmtKind.TheVariants as statement
use Rattle.bl_tree.specs.declared.scalar.Scalar.{Scalar as ScalarType}
use Rattle.bl_tree.specs.declared.tree.Arm.{Arm}
use Rattle.bl_tree.specs.declared.tree.Branch.{Branch}
use Rattle.bl_tree.specs.declared.tree.Expr.{Expr}
use Rattle.bl_tree.specs.declared.tree.Path.{Path}
use Rattle.bl_tree.specs.declared.tree.Stmt.{Stmt, out-Stmt}
use Rattle.bl_tree.specs.declared.tree.StmtKind.{StmtKind, out-StmtKind}
use Rattle.bl_tree.specs.declared.tree.StmtKind.TheOpen.{StmtKind-F}
use Rattle.bl_tree.specs.declared.tree.Ty.{Ty}
use Rattle.bl_tree.specs.Types.{scalar_in}
use Rattle.bl_tree.specs.Typing.{TypingContext, var_at}
use Rattle.bl_ctext_semantics.specs.Loops.{turns_in, turns_in_block}
use Rattle.bl_emit_acts.specs.Acts.{act_code, c_calling, c_clear, c_copied, c_set, c_zeroed, copy_code, initial_code, is_copied, layer_code, zeroed}
use Rattle.bl_emit_acts.specs.Expressions.{type_at}
use Rattle.bl_emit_acts.specs.Places.{place_in}
use Rattle.bl_emit_acts.specs.Trees.{c_read}
use Rattle.bl_emit_functions.specs.Statements.{else_code}
use Rattle.bl_emit_functions.specs.Trees.{c_if, c_truth}
use Rattle.bl_emit_functions_laws_wellformed.proofs.OnFormed.Turns.{block-turns, one-turns, set-turns}
use Rattle.bl_graph_nodes.specs.Nodes.{ActAt, Arguments, CheckAt, DepthEndAt, DepthJoinAt, EnterAt, ForkAt, HeadAt, Node, PauseAt}
use Rattle.bl_graph_nodes.specs.Nodes.{ResumeAt, StartAt, SurfaceEndAt, SurfaceJoinAt, TestAt}
use Rattle.bl_graph_nodes.specs.Plain.{Block, Done, Then}
use Rattle.bl_machine_pass.specs.Transitions.{Change, Transition}
use Rattle.bl_machine_pass.specs.Transitions.{ClearsBoth, ClearsCounter, EndsWhen, Finishes, SetsCounter, SetsFlag, SetsMark}
use Rattle.bl_emit_spec.specs.Activities.{Activity, activity_code, activity_view, blocks_code, blocks_in_order, body_of, callees_in, copied_in, counters_read}
use Rattle.bl_emit_spec.specs.Activities.{entry_code, picked, rested_code, rules_at, turns_in_source}
use Rattle.bl_emit_spec.specs.Blocks.{word_at, ActivityView, NodeCode, change_code, changes_code, control_code, flagged_now, forgotten, fused_code}
use Rattle.bl_emit_spec.specs.Blocks.{all_merged, choice_code, control_unless, entered_by, layer_acted, leaving_flag, may_end_in, merged_code, next_turn}
use Rattle.bl_emit_spec.specs.Blocks.{own_code, run_code}
use Rattle.bl_emit_spec.specs.Blocks.{spelled_truth, stmt_where, target_code, test_code, turns_of}
use Rattle.bl_emit_spec_laws_wellformed_bodies.specs.Signed.{NoneLoops}
use Rattle.bl_emit_spec.specs.Names.{NumberedWord, ended_place}
use Rattle.bl_emit_functions_laws_wellformed.proofs.OnFormed.Turns.{call-turns, clear-turns, turns_of_other, by_form}
use Rattle.bl_emit_acts_laws_simulation.proofs.Statements.{what}

-- no loops in these statements
record Quiet (block : List CStmt) : Type 0 where
  none : turns_in_block block ≡ []

-- nor in this one
record Still (s : CStmt) : Type 0 where
  none : turns_in s ≡ []

pub if-turns : (test : CExpr) (block : List CStmt) (other : Option (List CStmt)) → turns_in_block block ≡ [] → turns_of_other other ≡ [] →
    turns_in (c_if test block other) ≡ []
if-turns test block other one rest =
    by_form (statement.If test block other) (CStmtKind-F.If test block other) [] (statement.rolls-If test block other)
    (by other ∙ (λ i. one i ++ rest i))
  where
    by : (other : Option (List CStmt)) → turns_in (what (CStmtKind-F.If test block other)) ≡ turns_in_block block ++ turns_of_other other
    by None = rw (fold-roll-CStmt, fold-roll-CStmtKind) refl
    by (Some rest) = rw (fold-roll-CStmt, fold-roll-CStmtKind) refl

append-quiet : (first second : List CStmt) → Quiet first → Quiet second → Quiet (first ++ second)
append-quiet first second one other = record { none = block-turns first second ∙ (λ i. one.none i ++ other.none i) }

nothing : Quiet []
nothing = record { none = refl }

one-quiet : (s : CStmt) → Still s → Quiet (s ∷ [])
one-quiet s is = record { none = one-turns s [] is.none }

cons-quiet : (s : CStmt) (rest : List CStmt) → Still s → Quiet rest → Quiet (s ∷ rest)
cons-quiet s rest one other = record { none = (λ i. one.none i ++ other.none i) }

set-still : (place : CPlace) (value : CExpr) → Still (c_set place value)
set-still place value = record { none = set-turns place value }

clear-still : (place : CPlace) (name : Text) → Still (c_clear place name)
clear-still place name = record { none = clear-turns place name }

call-still : (call : CCall) → Still (c_calling call)
call-still call = record { none = call-turns call }

if-still : (test : CExpr) (block : List CStmt) (other : Option (List CStmt)) → Quiet block → turns_of_other other ≡ [] → Still (c_if test block other)
if-still test block other one rest = record { none = if-turns test block other one.none rest }

set-quiet : (place : CPlace) (value : CExpr) → Quiet (c_set place value ∷ [])
set-quiet place value = one-quiet (c_set place value) (set-still place value)

else-quiet : (code : List CStmt) → Quiet code → turns_of_other (else_code code) ≡ []
else-quiet [] quiet = refl
else-quiet (s ∷ rest) quiet = quiet.none

mapped : (make : ℕ → CStmt) (xs : List ℕ) → ((x : ℕ) → Still (make x)) → Quiet (map make xs)
mapped make [] each = nothing
mapped make (x ∷ xs) each = cons-quiet (make x) (map make xs) (each x) (mapped make xs each)

-- ---- acts

module _ (site : TypingContext) (copies : List Bool) where
  zeroed-quiet : (place : CPlace) (o : Option Ty) → Quiet (zeroed site.structs place o)
  zeroed-quiet place None = nothing
  zeroed-quiet place (Some ty) = one-quiet (c_zeroed site.structs place ty (scalar_in ty)) (by (scalar_in ty))
    where
      by : (s : Option ScalarType) → Still (c_zeroed site.structs place ty s)
      by (Some s) = set-still place _
      by None = clear-still place _

  initial-quiet : (j : ℕ) (initial : Option Expr) → Quiet (initial_code site j initial)
  initial-quiet j (Some e) = set-quiet (place_in site j []) _
  initial-quiet j None = zeroed-quiet (place_in site j []) (type_at (var_at site j))

  copy-quiet : (b : Bool) (j : ℕ) → Quiet (copy_code site b j)
  copy-quiet true j = set-quiet _ _
  copy-quiet false j = nothing

  layer-quiet : (layer : StmtKind-F StmtKind Arm Branch Stmt) → Quiet (layer_code site copies layer)
  layer-quiet (StmtKind-F.Declare j initial) =
      append-quiet (initial_code site j initial) (copy_code site (is_copied copies j) j) (initial-quiet j initial) (copy-quiet (is_copied copies j) j)
  layer-quiet (StmtKind-F.Assign path e) = set-quiet _ _
  layer-quiet (StmtKind-F.Call f inputs outputs) = one-quiet _ (call-still _)
  layer-quiet (StmtKind-F.Await e) = nothing
  layer-quiet (StmtKind-F.Run target f inputs outputs) = nothing
  layer-quiet (StmtKind-F.If arms other) = nothing
  layer-quiet (StmtKind-F.Cobegin branches) = nothing
  layer-quiet (StmtKind-F.When guard e body) = nothing
  layer-quiet (StmtKind-F.Repeat body) = nothing
  layer-quiet (StmtKind-F.Until body e) = nothing
  layer-quiet (StmtKind-F.While e body) = nothing
  layer-quiet (StmtKind-F.Return e) = nothing

  act-quiet : (s : Stmt) → Quiet (act_code site copies s)
  act-quiet s = layer-quiet (out-StmtKind (out-Stmt s).what)

module _ (view : ActivityView) where
  acted-by : (s : Stmt) (layer : StmtKind-F StmtKind Arm Branch Stmt) → Quiet (layer_acted view s layer)
  acted-by s (StmtKind-F.Return (Some e)) = set-quiet _ _
  acted-by s (StmtKind-F.Return None) = nothing
  acted-by s (StmtKind-F.Declare j initial) = act-quiet view.site view.copies s
  acted-by s (StmtKind-F.Assign path e) = act-quiet view.site view.copies s
  acted-by s (StmtKind-F.Call f inputs outputs) = act-quiet view.site view.copies s
  acted-by s (StmtKind-F.Await e) = act-quiet view.site view.copies s
  acted-by s (StmtKind-F.Run target f inputs outputs) = act-quiet view.site view.copies s
  acted-by s (StmtKind-F.If arms other) = act-quiet view.site view.copies s
  acted-by s (StmtKind-F.Cobegin branches) = act-quiet view.site view.copies s
  acted-by s (StmtKind-F.When guard e body) = act-quiet view.site view.copies s
  acted-by s (StmtKind-F.Repeat body) = act-quiet view.site view.copies s
  acted-by s (StmtKind-F.Until body e) = act-quiet view.site view.copies s
  acted-by s (StmtKind-F.While e body) = act-quiet view.site view.copies s

  -- ---- changes

  forgotten-quiet : (c : ℕ) (read : Bool) → Quiet (forgotten view c read)
  forgotten-quiet c true = cons-quiet _ _ (set-still _ _) (set-quiet _ _)
  forgotten-quiet c false = set-quiet _ _

  change-quiet : (change : Change) → Quiet (change_code view change)
  change-quiet (SetsFlag n) = set-quiet _ _
  change-quiet (SetsCounter slot) = set-quiet _ _
  change-quiet (ClearsCounter c) = set-quiet _ _
  change-quiet (ClearsBoth c) = forgotten-quiet c (view.is_read c)
  change-quiet (SetsMark n) = set-quiet _ _
  change-quiet (EndsWhen start surface depth) =
      one-quiet _ (if-still _ (flagged_now view surface ∷ []) (Some (flagged_now view depth ∷ [])) (set-quiet _ _) (else-quiet (flagged_now view
      depth ∷ []) (set-quiet _ _)))
  change-quiet Finishes = set-quiet _ _

  changes-quiet : (changes : List Change) → Quiet (changes_code view changes)
  changes-quiet [] = nothing
  changes-quiet (change ∷ changes) = append-quiet (change_code view change) (changes_code view changes) (change-quiet change) (changes-quiet changes)

  -- ---- nodes

  where-quiet : (test : Bool) (s : CStmt) → Still s → Quiet (stmt_where test s)
  where-quiet true s still = one-quiet s still
  where-quiet false s still = nothing

  run-quiet : (n : NumberedWord) (u : ℕ) (arguments : Arguments) → Quiet (run_code view n u arguments)
  run-quiet n u arguments =
      append-quiet (stmt_where (may_end_in (slice_get view.site.earlier u)) (c_set ended_place (c_truth false))) _
      (where-quiet (may_end_in (slice_get view.site.earlier u)) (c_set ended_place (c_truth false)) (set-still _ _)) (one-quiet _ (call-still _))

  target-quiet : (n : NumberedWord) (target : Option Path) → Quiet (target_code view n target)
  target-quiet n None = nothing
  target-quiet n (Some path) = set-quiet _ _

  tested-quiet : (test : CExpr) (rule : Transition) → Quiet (test_code view test rule)
  tested-quiet test rule = by (spelled_truth test)
    where
      by : (truth : Option Bool) → Quiet (choice_code test truth (changes_code view rule.on_true) (changes_code view rule.on_false))
      by None =
          one-quiet (c_if test (changes_code view rule.on_true) (else_code (changes_code view rule.on_false)))
          (if-still test (changes_code view rule.on_true) (else_code (changes_code view rule.on_false)) (changes-quiet rule.on_true)
          (else-quiet (changes_code view rule.on_false) (changes-quiet rule.on_false)))
      by (Some true) = changes-quiet rule.on_true
      by (Some false) = changes-quiet rule.on_false

  own-quiet : (u : ℕ) (rule : Transition) (n : Node) → Quiet (own_code view u rule n)
  own-quiet u rule (ActAt l s) = acted-by s (out-StmtKind (out-Stmt s).what)
  own-quiet u rule (TestAt l at e) = nothing
  own-quiet u rule (CheckAt l at e) = nothing
  own-quiet u rule (EnterAt l at arguments) =
      cons-quiet _ (changes_code view rule.on_true) (clear-still _ _) (changes-quiet rule.on_true)
  own-quiet u rule (ResumeAt l at arguments) = nothing
  own-quiet u rule (PauseAt l at) = nothing
  own-quiet u rule (HeadAt l at) = nothing
  own-quiet u rule (StartAt l at) = nothing
  own-quiet u rule (SurfaceEndAt l at) = nothing
  own-quiet u rule (DepthEndAt l at) = nothing
  own-quiet u rule (ForkAt l at) = nothing
  own-quiet u rule (SurfaceJoinAt l at) = nothing
  own-quiet u rule (DepthJoinAt l at) = nothing

  control-quiet : (u : ℕ) (rule : Transition) (n : Node) → Quiet (control_code view u rule n)
  control-quiet u rule (ActAt l s) = changes-quiet rule.on_true
  control-quiet u rule (TestAt l at e) = tested-quiet _ rule
  control-quiet u rule (CheckAt l at e) = tested-quiet _ rule
  control-quiet u rule (EnterAt l at arguments) = run-quiet (word_at view at u) u arguments
  control-quiet u rule (ResumeAt l at arguments) =
      let n : NumberedWord = word_at view at u in
      let code : List CStmt = target_code view n arguments.target ++ changes_code view rule.on_true in
      let ends : Bool = may_end_in (slice_get view.site.earlier u) in
      append-quiet (run_code view n u arguments) (stmt_where ends (c_if (c_read ended_place) code None)) (run-quiet n u arguments)
      (where-quiet ends (c_if (c_read ended_place) code None)
      (if-still _ code None
      (append-quiet (target_code view n arguments.target) (changes_code view rule.on_true) (target-quiet n arguments.target) (changes-quiet rule.on_true)) refl))
  control-quiet u rule (PauseAt l at) = changes-quiet rule.on_true
  control-quiet u rule (HeadAt l at) = changes-quiet rule.on_true
  control-quiet u rule (StartAt l at) = changes-quiet rule.on_true
  control-quiet u rule (SurfaceEndAt l at) = changes-quiet rule.on_true
  control-quiet u rule (DepthEndAt l at) = changes-quiet rule.on_true
  control-quiet u rule (ForkAt l at) = changes-quiet rule.on_true
  control-quiet u rule (SurfaceJoinAt l at) = changes-quiet rule.on_true
  control-quiet u rule (DepthJoinAt l at) = changes-quiet rule.on_true

  -- no loops in what a turn does
  abbrev TurnIs : NodeCode → Type 0
  TurnIs turn = Quiet turn.own × Quiet turn.control

  -- nor in what each of some turns does
  abbrev Each : List NodeCode → Type 0
  Each [] = ⊤
  Each (turn ∷ rest) = TurnIs turn × Each rest

  turns-quiet : (callees : List ℕ) (rules : List Transition) → Each (turns_of view callees rules)
  turns-quiet [] rules = tt
  turns-quiet (u ∷ callees) [] = tt
  turns-quiet (u ∷ callees) (rule ∷ rules) = ((own-quiet u rule rule.node, control-quiet u rule rule.node), turns-quiet callees rules)

  at-quiet : (turns : List NodeCode) (j : ℕ) (o : Option NodeCode) → Each turns → slice_get turns j ≡ o → Each (option_to_list o)
  at-quiet turns j None all is = tt
  at-quiet [] j (Some turn) all is = absurd (cc)
  at-quiet (x ∷ turns) zero (Some turn) all is = (subst TurnIs (same_Some x turn is) all.0, tt)
  at-quiet (x ∷ turns) (suc j) (Some turn) all is = at-quiet turns j (Some turn) all.1 is

  append-each : (first second : List NodeCode) → Each first → Each second → Each (first ++ second)
  append-each [] second one other = other
  append-each (turn ∷ first) second one other = (one.0, append-each first second one.1 other)

  picked-quiet : (turns : List NodeCode) (block : List ℕ) → Each turns → Each (picked turns block)
  picked-quiet turns [] all = tt
  picked-quiet turns (j ∷ block) all =
      append-each (option_to_list (slice_get turns j)) (picked turns block) (at-quiet turns j (slice_get turns j) all refl)
      (picked-quiet turns block all)

  unless-quiet : (leaves : Bool) (turn : NodeCode) → Quiet turn.control → Quiet (control_unless leaves turn)
  unless-quiet true turn quiet = nothing
  unless-quiet false turn quiet = quiet

  fused-quiet : (leaves : Bool) (turn : NodeCode) (turns : List NodeCode) → TurnIs turn → Each turns → Quiet (fused_code leaves turn turns)
  fused-quiet leaves last [] own all = append-quiet last.own (control_unless leaves last) own.0 (unless-quiet leaves last own.1)
  fused-quiet leaves turn (next ∷ rest) own all =
      append-quiet turn.own (fused_code leaves next rest) own.0 (fused-quiet leaves next rest all.0 all.1)

  merged-quiet : (before : Option ℕ) (leaves : Bool) (turns : List NodeCode) → Each turns → Quiet (merged_code view.word before leaves turns)
  merged-quiet before leaves [] all = nothing
  merged-quiet before leaves (first ∷ rest) all =
      one-quiet (c_if (entered_by view.word before first.test) (fused_code leaves first rest) None)
      (if-still (entered_by view.word before first.test) (fused_code leaves first rest) None (fused-quiet leaves first rest all.0 all.1) refl)

  all_merged-quiet : (turns : List NodeCode) → Each turns → (before : Option ℕ) (blocks : List (List ℕ)) →
      Quiet (all_merged view.word before (map (picked turns) blocks))
  all_merged-quiet turns all before [] = nothing
  all_merged-quiet turns all before (block ∷ blocks) =
      let left : Option ℕ = leaving_flag (picked turns block) (next_turn (map (picked turns) blocks)) in
      append-quiet (merged_code view.word before (is_some left) (picked turns block)) (all_merged view.word left (map (picked turns) blocks))
      (merged-quiet before (is_some left) (picked turns block) (picked-quiet turns block all)) (all_merged-quiet turns all left blocks)

  blocks-quiet : (turns : List NodeCode) (blocks : List (List ℕ)) → Each turns → Quiet (blocks_code view.word turns blocks)
  blocks-quiet turns blocks all = all_merged-quiet turns all None blocks

  entry-quiet : (body : Block) → Quiet (entry_code view body)
  entry-quiet Done = nothing
  entry-quiet (Then s rest) = set-quiet _ _

whole : (a : Activity) → Quiet (activity_code a)
whole a =
    let copies : List CStmt = map (c_copied (activity_view a).site) (copied_in a) in
    let last : List CStmt = blocks_in_order a in
    append-quiet (map rested_code (counters_read a)) (entry_code (activity_view a) (body_of a) ++ (copies ++ last))
    (mapped rested_code (counters_read a) (λ c. set-still _ _))
    (append-quiet (entry_code (activity_view a) (body_of a)) (copies ++ last) (entry-quiet (activity_view a) (body_of a))
    (append-quiet copies last (mapped (c_copied (activity_view a).site) (copied_in a) (λ j. set-still _ _))
    (blocks-quiet (activity_view a) (turns_in_source a) a.blocks (turns-quiet (activity_view a) (callees_in (body_of a)) (rules_at a)))))

pub quiet : NoneLoops
quiet a = (whole a).none
