-- No `if` within a block has a literal as its condition, nor reads a flag.
use Rattle.std.proofs.Common.{◌≡◌, ℕ, Bool, true, false, ◌&&◌, not, cond, List, [], ◌∷◌, ◌++◌, map, length, Option, Some, None, refl, sym, ap, ◌∙◌}
use Rattle.std.proofs.Common.{subst}
use Rattle.std.proofs.lemmas.List.Folds.{list_all-append}
use Rattle.std.specs.List.{list_all}
use Rattle.std.specs.Prelude.{filter, is_some, nat_eq, option_map, slice_get}
use Rattle.std.proofs.lemmas.Bool.{and_from}
use Rattle.bl_tree.proofs.Basics.{and_first, and_second}
use Rattle.bl_tree.specs.declared.text.Text.{Text}
use Rattle.bl_tree.specs.declared.c.CCall.{CCall}
use Rattle.bl_tree.specs.declared.c.CExpr.{CExpr, out-roll-CExpr}
use Rattle.bl_tree.specs.declared.c.CExprKind.{CExprKind-F, out-CExprKind, out-roll-CExprKind}
use Rattle.bl_tree.specs.declared.c.CExprKind.TheVariants as expression
use Rattle.bl_tree.specs.declared.c.CPlace.{CPlace}
use Rattle.bl_tree.specs.declared.c.CStmt.{CStmt, fold-roll-CStmt}
use Rattle.bl_tree.specs.declared.c.CStmtKind.{CStmtKind, CStmtKind-F, fold-roll-CStmtKind, roll-CStmtKind}
use Rattle.bl_tree.specs.declared.c.CStmtKind.TheVariants as statement
use Rattle.bl_tree.specs.declared.scalar.Scalar.{Scalar as ScalarType}
use Rattle.bl_tree.specs.declared.tree.Arm.{Arm}
use Rattle.bl_tree.specs.declared.tree.Branch.{Branch}
use Rattle.bl_tree.specs.declared.tree.Expr.{Expr}
use Rattle.bl_tree.specs.declared.tree.Path.{Path}
use Rattle.bl_tree.specs.declared.tree.Stmt.{Stmt, out-Stmt}
use Rattle.bl_tree.specs.declared.tree.StmtKind.{StmtKind, out-StmtKind}
use Rattle.bl_tree.specs.declared.tree.StmtKind.TheOpen.{StmtKind-F}
use Rattle.bl_tree.specs.declared.tree.Ty.{Ty}
use Rattle.bl_tree.specs.Types.{scalar_in}
use Rattle.bl_tree.specs.Typing.{TypingContext, var_at}
use Rattle.bl_graph_nodes.specs.Nodes.{ActAt, Arguments, CheckAt, DepthEndAt, DepthJoinAt, EnterAt, ForkAt, HeadAt, Node, PauseAt}
use Rattle.bl_graph_nodes.specs.Nodes.{ResumeAt, StartAt, SurfaceEndAt, SurfaceJoinAt, TestAt}
use Rattle.bl_machine_pass.specs.Transitions.{Change, Transition}
use Rattle.bl_machine_pass.specs.Transitions.{ClearsBoth, ClearsCounter, EndsWhen, Finishes, SetsCounter, SetsFlag, SetsMark}
use Rattle.bl_emit_acts.specs.Acts.{act_code, c_calling, c_clear, c_set, c_stmt, c_zeroed, code_made, copy_code, initial_code, is_copied, layer_code}
use Rattle.bl_emit_acts.specs.Acts.{name_of_callee, zeroed}
use Rattle.bl_emit_acts.specs.Expressions.{type_at}
use Rattle.bl_emit_acts.specs.Places.{place_in}
use Rattle.bl_emit_acts.specs.Trees.{c_call, c_place, c_read, nowhere}
use Rattle.bl_emit_functions.specs.Statements.{else_code}
use Rattle.bl_emit_functions.specs.Trees.{c_if, c_truth}
use Rattle.bl_emit_spec.specs.Blocks.{ActivityView, NodeCode, change_code, changes_code, choice_code, control_code, control_unless, counter_value}
use Rattle.bl_emit_spec.specs.Blocks.{flagged_now, forgotten, fused_code, layer_acted, may_end_in, name_in, node_word, own_code, run_args, run_code}
use Rattle.bl_emit_spec.specs.Blocks.{spelled_in_kind, spelled_truth, stmt_where, target_code, test_code, node_turn, turns_of, word_at}
use Rattle.bl_emit_spec.specs.Names.{NumberedWord, callee_frame, counter_place, ended_name, ended_place, frame_name, mark_name, mark_place, rested_place}
use Rattle.bl_emit_laws.specs.Counters.Flags.{decides, flags_read, is_decided_here, is_flag_name, optional_answers}
use Rattle.bl_ctext_places.specs.Counters.{names_counter}
use Rattle.bl_ctext_places.specs.Places.{CPath, CPaths, places_in}
use Rattle.bl_emit_laws.proofs.OnCounters.Fine.{Fine}
use Rattle.bl_emit_laws.proofs.OnCounters.Paths.{OfVariables, expr_fine, read-fine, root-fine}

-- ---- expressions that read no flag

-- the place begins with no flag
abbrev pub IsNoFlag : CPath → Type 0
IsNoFlag place = is_flag_name place.name ≡ false

-- the name isn't that of a flag
abbrev pub NoFlag : Text → Type 0
NoFlag name = is_flag_name name ≡ false

pub variables : OfVariables NoFlag
variables = record { variable = λ vars k. refl; copy = λ vars k. refl; memory = refl }

pub begins : (place : CPath) → names_counter place ≡ false → NoFlag place.name → IsNoFlag place
begins place none named = named

none_named : (places : CPaths) → Fine IsNoFlag places → filter is_flag_name (map (λ (place : CPath). place.name) places) ≡ []
none_named [] all = refl
none_named (place ∷ rest) all =
    let more : List Text = filter is_flag_name (map (λ (place : CPath). place.name) rest) in
    ap (λ (b : Bool). cond b (place.name ∷ more) more) all.0 ∙ none_named rest all.1

-- what begins with no flag reads none
pub none-read : (e : CExpr) → Fine IsNoFlag (places_in e) → flags_read e ≡ []
none-read e all = none_named (places_in e) all

pub local-read : (name : Text) → NoFlag name → Fine IsNoFlag (places_in (c_read (c_place false name [])))
local-read name other =
    read-fine IsNoFlag NoFlag variables begins (c_place false name []) (root-fine IsNoFlag NoFlag variables begins false name other)

-- ---- conditions

decided_by : (e : CExpr) → spelled_truth e ≡ None → flags_read e ≡ [] → is_decided_here e ≡ true
decided_by e plain none =
    ap (λ (truth : Option Bool). not (is_some truth) && nat_eq (length (flags_read e)) 0) plain
    ∙ ap (λ (names : List Text). nat_eq (length names) 0) none

read_spelled : (place : CPlace) → spelled_truth (c_read place) ≡ None
read_spelled place =
    ap (λ e. spelled_in_kind (out-CExprKind e.what)) (out-roll-CExpr (record { place = nowhere; what = expression.Read place }))
    ∙ (ap (λ k. spelled_in_kind (out-CExprKind k)) (sym (expression.rolls-Read place))
    ∙ ap spelled_in_kind (out-roll-CExprKind (CExprKind-F.Read place)))

-- a local that is no flag decides
local_decides : (name : Text) → NoFlag name → is_decided_here (c_read (c_place false name [])) ≡ true
local_decides name other =
    decided_by (c_read (c_place false name [])) (read_spelled (c_place false name [])) (none-read (c_read (c_place false name [])) (local-read name other))

-- ---- statements

-- the answer for a statement of a form
by_form : (k made : CStmtKind) (answer : Bool) → made ≡ k → decides (c_stmt made) ≡ answer → decides (c_stmt k) ≡ answer
by_form k made answer same shape = subst (λ (k : CStmtKind). decides (c_stmt k) ≡ answer) same shape

set_decides : (place : CPlace) (value : CExpr) → decides (c_set place value) ≡ true
set_decides place value =
    by_form (statement.Set place value) (roll-CStmtKind (CStmtKind-F.Set place value)) true (statement.rolls-Set place value)
    (rw (fold-roll-CStmt, fold-roll-CStmtKind) refl)

clear_decides : (place : CPlace) (name : Text) → decides (c_clear place name) ≡ true
clear_decides place name =
    by_form (statement.Clear place name) (roll-CStmtKind (CStmtKind-F.Clear place name)) true (statement.rolls-Clear place name)
    (rw (fold-roll-CStmt, fold-roll-CStmtKind) refl)

call_decides : (call : CCall) → decides (c_calling call) ≡ true
call_decides call =
    by_form (statement.Call call) (roll-CStmtKind (CStmtKind-F.Call call)) true (statement.rolls-Call call)
    (rw (fold-roll-CStmt, fold-roll-CStmtKind) refl)

-- all of these decide
abbrev pub Decide : List CStmt → Type 0
Decide code = list_all decides code ≡ true

all_answers : (code : List CStmt) → Decide code → list_all (λ answer. answer) (map decides code) ≡ true
all_answers [] all = refl
all_answers (s ∷ rest) all = by (decides s) (list_all decides rest) all (all_answers rest)
  where
    by : (first more : Bool) → (first && more) ≡ true → (more ≡ true → list_all (λ answer. answer) (map decides rest) ≡ true) →
        (first && list_all (λ answer. answer) (map decides rest)) ≡ true
    by true more all rest = rest all
    by false more all rest = all

-- the answer for an `else` that may be absent
abbrev OtherDecides : Option (List CStmt) → Type 0
OtherDecides other = optional_answers (option_map (map decides) other) ≡ true

if_decides : (test : CExpr) (block : List CStmt) (other : Option (List CStmt)) → is_decided_here test ≡ true → Decide block → OtherDecides other →
    decides (c_if test block other) ≡ true
if_decides test block other one all more =
    by_form (statement.If test block other) (roll-CStmtKind (CStmtKind-F.If test block other))
    (is_decided_here test && (list_all (λ answer. answer) (map decides block) && optional_answers (option_map (map decides) other)))
    (statement.rolls-If test block other) (form other)
    ∙ and_from (is_decided_here test) (list_all (λ answer. answer) (map decides block) && optional_answers (option_map (map decides) other)) one
    (and_from (list_all (λ answer. answer) (map decides block)) (optional_answers (option_map (map decides) other)) (all_answers block all) more)
  where
    form : (other : Option (List CStmt)) → decides (c_stmt (roll-CStmtKind (CStmtKind-F.If test block other)))
        ≡ (is_decided_here test && (list_all (λ answer. answer) (map decides block) && optional_answers (option_map (map decides) other)))
    form None = rw (fold-roll-CStmt, fold-roll-CStmtKind) refl
    form (Some rest) = rw (fold-roll-CStmt, fold-roll-CStmtKind) refl

pub then_decide : (first second : List CStmt) → Decide first → Decide second → Decide (first ++ second)
then_decide first second one other = list_all-append decides first second ∙ and_from (list_all decides first) (list_all decides second) one other

first_decides : (s : CStmt) (rest : List CStmt) → decides s ≡ true → Decide rest → Decide (s ∷ rest)
first_decides s rest one other = and_from (decides s) (list_all decides rest) one other

one_decides : (s : CStmt) → decides s ≡ true → Decide (s ∷ [])
one_decides s one = first_decides s [] one refl

sets_decide : (place : CPlace) (value : CExpr) → Decide (c_set place value ∷ [])
sets_decide place value = one_decides (c_set place value) (set_decides place value)

else_decides : (code : List CStmt) → Decide code → OtherDecides (else_code code)
else_decides [] all = refl
else_decides (s ∷ rest) all = all_answers (s ∷ rest) all

-- ---- acts

module _ (site : TypingContext) (copies : List Bool) where
  zeroed_decide : (place : CPlace) (o : Option Ty) → Decide (zeroed site.structs place o)
  zeroed_decide place None = refl
  zeroed_decide place (Some ty) = one_decides (c_zeroed site.structs place ty (scalar_in ty)) (by (scalar_in ty))
    where
      by : (s : Option ScalarType) → decides (c_zeroed site.structs place ty s) ≡ true
      by (Some s) = set_decides place _
      by None = clear_decides place _

  initial_decide : (j : ℕ) (initial : Option Expr) → Decide (initial_code site j initial)
  initial_decide j (Some e) = sets_decide (place_in site j []) (code_made site e)
  initial_decide j None = zeroed_decide (place_in site j []) (type_at (var_at site j))

  copy_decide : (b : Bool) (j : ℕ) → Decide (copy_code site b j)
  copy_decide true j = sets_decide _ _
  copy_decide false j = refl

  layer_decides : (layer : StmtKind-F StmtKind Arm Branch Stmt) → Decide (layer_code site copies layer)
  layer_decides (StmtKind-F.Declare j initial) =
      then_decide (initial_code site j initial) (copy_code site (is_copied copies j) j) (initial_decide j initial) (copy_decide (is_copied copies j) j)
  layer_decides (StmtKind-F.Assign path e) = sets_decide _ _
  layer_decides (StmtKind-F.Call f inputs outputs) = one_decides _ (call_decides _)
  layer_decides (StmtKind-F.Await e) = refl
  layer_decides (StmtKind-F.Run target f inputs outputs) = refl
  layer_decides (StmtKind-F.If arms other) = refl
  layer_decides (StmtKind-F.Cobegin branches) = refl
  layer_decides (StmtKind-F.When guard e body) = refl
  layer_decides (StmtKind-F.Repeat body) = refl
  layer_decides (StmtKind-F.Until body e) = refl
  layer_decides (StmtKind-F.While e body) = refl
  layer_decides (StmtKind-F.Return e) = refl

  act_decides : (s : Stmt) → Decide (act_code site copies s)
  act_decides s = layer_decides (out-StmtKind (out-Stmt s).what)

module _ (view : ActivityView) where
  acted_by : (s : Stmt) (layer : StmtKind-F StmtKind Arm Branch Stmt) → Decide (layer_acted view s layer)
  acted_by s (StmtKind-F.Return (Some e)) = sets_decide _ _
  acted_by s (StmtKind-F.Return None) = refl
  acted_by s (StmtKind-F.Declare j initial) = act_decides view.site view.copies s
  acted_by s (StmtKind-F.Assign path e) = act_decides view.site view.copies s
  acted_by s (StmtKind-F.Call f inputs outputs) = act_decides view.site view.copies s
  acted_by s (StmtKind-F.Await e) = act_decides view.site view.copies s
  acted_by s (StmtKind-F.Run target f inputs outputs) = act_decides view.site view.copies s
  acted_by s (StmtKind-F.If arms other) = act_decides view.site view.copies s
  acted_by s (StmtKind-F.Cobegin branches) = act_decides view.site view.copies s
  acted_by s (StmtKind-F.When guard e body) = act_decides view.site view.copies s
  acted_by s (StmtKind-F.Repeat body) = act_decides view.site view.copies s
  acted_by s (StmtKind-F.Until body e) = act_decides view.site view.copies s
  acted_by s (StmtKind-F.While e body) = act_decides view.site view.copies s

  -- ---- changes

  forgotten_decide : (k : ℕ) (read : Bool) → Decide (forgotten view k read)
  forgotten_decide k true =
      let zero : CExpr = counter_value view.sizes k 0 in
      first_decides (c_set (counter_place k) zero) (c_set (rested_place k) zero ∷ []) (set_decides (counter_place k) zero) (sets_decide (rested_place k) zero)
  forgotten_decide k false = sets_decide (counter_place k) (counter_value view.sizes k 0)

  change_decides : (change : Change) → Decide (change_code view change)
  change_decides (SetsFlag n) = sets_decide _ _
  change_decides (SetsCounter slot) = sets_decide _ _
  change_decides (ClearsCounter k) = sets_decide _ _
  change_decides (ClearsBoth k) = forgotten_decide k (view.is_read k)
  change_decides (SetsMark n) = sets_decide _ _
  change_decides (EndsWhen start surface depth) =
      one_decides (c_if (c_read (mark_place (node_word view start))) (flagged_now view surface ∷ []) (Some (flagged_now view depth ∷ [])))
      (if_decides (c_read (mark_place (node_word view start))) (flagged_now view surface ∷ []) (Some (flagged_now view depth ∷ []))
      (local_decides (mark_name (node_word view start)) refl) (sets_decide _ _)
      (all_answers (flagged_now view depth ∷ []) (sets_decide _ _)))
  change_decides Finishes = sets_decide _ _

  changes_decide : (changes : List Change) → Decide (changes_code view changes)
  changes_decide [] = refl
  changes_decide (change ∷ changes) =
      then_decide (change_code view change) (changes_code view changes) (change_decides change) (changes_decide changes)

  -- ---- nodes

  tested_decide : (e : Expr) (rule : Transition) → Decide (test_code view (code_made view.site e) rule)
  tested_decide e rule = by (spelled_truth test) refl
    where
      test : CExpr
      test = code_made view.site e

      by : (truth : Option Bool) → spelled_truth test ≡ truth →
          Decide (choice_code test truth (changes_code view rule.on_true) (changes_code view rule.on_false))
      by None is =
          one_decides (c_if test (changes_code view rule.on_true) (else_code (changes_code view rule.on_false)))
          (if_decides test (changes_code view rule.on_true) (else_code (changes_code view rule.on_false))
          (decided_by test is (none-read test (expr_fine IsNoFlag NoFlag variables begins view.site e))) (changes_decide rule.on_true)
          (else_decides (changes_code view rule.on_false) (changes_decide rule.on_false)))
      by (Some true) is = changes_decide rule.on_true
      by (Some false) is = changes_decide rule.on_false

  where_decides : (test : Bool) (s : CStmt) → Decide (s ∷ []) → Decide (stmt_where test s)
  where_decides true s decides = decides
  where_decides false s decides = refl

  run_decides : (k : NumberedWord) (a : ℕ) (arguments : Arguments) → Decide (run_code view k a arguments)
  run_decides k a arguments =
      let call : CCall = c_call (name_of_callee (slice_get view.site.earlier a)) (run_args view k a arguments) in
      let ends : Bool = may_end_in (slice_get view.site.earlier a) in
      then_decide (stmt_where ends (c_set ended_place (c_truth false))) (c_calling call ∷ [])
      (where_decides ends (c_set ended_place (c_truth false)) (sets_decide ended_place (c_truth false)))
      (one_decides (c_calling call) (call_decides call))

  target_decides : (k : NumberedWord) (target : Option Path) → Decide (target_code view k target)
  target_decides k (Some path) = sets_decide _ _
  target_decides k None = refl

  own_decides : (a : ℕ) (rule : Transition) (n : Node) → Decide (own_code view a rule n)
  own_decides a rule (ActAt l s) = acted_by s (out-StmtKind (out-Stmt s).what)
  own_decides a rule (TestAt l at e) = refl
  own_decides a rule (CheckAt l at e) = refl
  own_decides a rule (EnterAt l at arguments) =
      let name : Text = frame_name (name_in (slice_get view.site.earlier a)) in
      first_decides (c_clear (callee_frame (word_at view at a)) name) (changes_code view rule.on_true) (clear_decides (callee_frame (word_at view at a)) name)
      (changes_decide rule.on_true)
  own_decides a rule (ResumeAt l at arguments) = refl
  own_decides a rule (PauseAt l at) = refl
  own_decides a rule (HeadAt l at) = refl
  own_decides a rule (StartAt l at) = refl
  own_decides a rule (SurfaceEndAt l at) = refl
  own_decides a rule (DepthEndAt l at) = refl
  own_decides a rule (ForkAt l at) = refl
  own_decides a rule (SurfaceJoinAt l at) = refl
  own_decides a rule (DepthJoinAt l at) = refl

  control_decides : (a : ℕ) (rule : Transition) (n : Node) → Decide (control_code view a rule n)
  control_decides a rule (ActAt l s) = changes_decide rule.on_true
  control_decides a rule (TestAt l at e) = tested_decide e rule
  control_decides a rule (CheckAt l at e) = tested_decide e rule
  control_decides a rule (EnterAt l at arguments) = run_decides (word_at view at a) a arguments
  control_decides a rule (ResumeAt l at arguments) =
      let k : NumberedWord = word_at view at a in
      let code : List CStmt = target_code view k arguments.target ++ changes_code view rule.on_true in
      let ends : Bool = may_end_in (slice_get view.site.earlier a) in
      then_decide (run_code view k a arguments) (stmt_where ends (c_if (c_read ended_place) code None)) (run_decides k a arguments)
      (where_decides ends (c_if (c_read ended_place) code None)
      (one_decides (c_if (c_read ended_place) code None)
      (if_decides (c_read ended_place) code None (local_decides ended_name refl)
      (then_decide (target_code view k arguments.target) (changes_code view rule.on_true) (target_decides k arguments.target)
      (changes_decide rule.on_true)) refl)))
  control_decides a rule (PauseAt l at) = changes_decide rule.on_true
  control_decides a rule (HeadAt l at) = changes_decide rule.on_true
  control_decides a rule (StartAt l at) = changes_decide rule.on_true
  control_decides a rule (SurfaceEndAt l at) = changes_decide rule.on_true
  control_decides a rule (DepthEndAt l at) = changes_decide rule.on_true
  control_decides a rule (ForkAt l at) = changes_decide rule.on_true
  control_decides a rule (SurfaceJoinAt l at) = changes_decide rule.on_true
  control_decides a rule (DepthJoinAt l at) = changes_decide rule.on_true

-- ---- turns

-- whether what a turn does decides
abbrev pub turn_decides : NodeCode → Bool
turn_decides turn = list_all decides turn.own && list_all decides turn.control

pub turns_decide : (view : ActivityView) (callees : List ℕ) (rules : List Transition) → list_all turn_decides (turns_of view callees rules) ≡ true
turns_decide view [] rules = refl
turns_decide view (a ∷ callees) [] = refl
turns_decide view (a ∷ callees) (rule ∷ rules) =
    and_from (turn_decides (node_turn view a rule)) (list_all turn_decides (turns_of view callees rules))
    (and_from (list_all decides (own_code view a rule rule.node)) (list_all decides (control_code view a rule rule.node)) (own_decides view a rule rule.node)
    (control_decides view a rule rule.node))
    (turns_decide view callees rules)

unless_decides : (leaves : Bool) (turn : NodeCode) → turn_decides turn ≡ true → Decide (control_unless leaves turn)
unless_decides true turn own = refl
unless_decides false turn own = and_second (list_all decides turn.own) (list_all decides turn.control) own

-- what the turns of a block do decides
pub fused_decides : (leaves : Bool) (turn : NodeCode) (turns : List NodeCode) → turn_decides turn ≡ true → list_all turn_decides turns ≡ true →
    Decide (fused_code leaves turn turns)
fused_decides leaves last [] own all =
    then_decide last.own (control_unless leaves last) (and_first (list_all decides last.own) (list_all decides last.control) own)
    (unless_decides leaves last own)
fused_decides leaves turn (next ∷ rest) own all =
    then_decide turn.own (fused_code leaves next rest) (and_first (list_all decides turn.own) (list_all decides turn.control) own)
    (fused_decides leaves next rest (and_first (turn_decides next) (list_all turn_decides rest) all)
    (and_second (turn_decides next) (list_all turn_decides rest) all))
