-- What asks, is done and changes at a node is the same by its number.
use Rattle.std.proofs.Common.{◌≡◌, ℕ, List, [], ◌∷◌, ◌++◌, None, map, refl, ap, ◌∙◌}
use Rattle.std.specs.Prelude.{slice_get}
use Rattle.bl_tree.specs.declared.c.CExpr.{CExpr}
use Rattle.bl_tree.specs.declared.c.CStmt.{CStmt}
use Rattle.bl_tree.specs.declared.tree.Expr.{Expr}
use Rattle.bl_graph_nodes.specs.Nodes.{ActAt, Arguments, CheckAt, DepthEndAt, DepthJoinAt, EnterAt, ForkAt, HeadAt, Node, PauseAt, ResumeAt, StartAt}
use Rattle.bl_graph_nodes.specs.Nodes.{SurfaceEndAt, SurfaceJoinAt, TestAt}
use Rattle.bl_graph_nodes.specs.Plain.{plain_body}
use Rattle.bl_emit_acts.specs.Acts.{c_clear, code_made}
use Rattle.bl_emit_acts.specs.Trees.{c_read}
use Rattle.bl_emit_functions.specs.Trees.{c_if}
use Rattle.bl_machine_pass.specs.Transitions as nodes
use Rattle.bl_machine_pass.specs.Transitions.{ClearsBoth, ClearsCounter, Ended, EndsWhen, Finishes, Flagged, IsAny, IsNew, IsOld, Rested, RestedIn, SetsCounter, SetsFlag, SetsMark}
use Rattle.bl_machine_pass.specs.Numbered.{slots_of}
use Rattle.bl_machine_transitions.specs.Callees.{callees_in}
use Rattle.bl_machine_transitions_laws.specs.Laws.{RulesAreListed}
use Rattle.bl_machine_transitions.specs.Told.{all_told, task_at, told_change, told_condition, told_rule}
use Rattle.bl_emit_spec.specs.Blocks.{ActivityView, NodeCode, change_code, changes_code, choice_code, control_code, flag_asked, guard_of, may_end_in, name_in}
use Rattle.bl_emit_spec.specs.Blocks.{node_turn, own_code, run_code, run_part, spelled_truth, stmt_where, target_code, turns_of, word_at}
use Rattle.bl_emit_spec.specs.Names.{NumberedWord, callee_frame, ended_place, frame_name}
use Rattle.bl_emit_blocks.specs.Numbered.{numbered_change, numbered_changes, numbered_control, numbered_flag, numbered_guard, numbered_own, numbered_part}
use Rattle.bl_emit_blocks.specs.Numbered.{numbered_turn}
use Rattle.bl_emit_blocks_laws.specs.Laws.{BlocksAreNumbered, BodiesAreNumbered}

module _ (view : ActivityView) where
  change_is : (change : nodes.Change) → change_code view change ≡ numbered_change view (told_change view.number change)
  change_is (SetsFlag n) = refl
  change_is (SetsCounter slot) = refl
  change_is (ClearsCounter k) = refl
  change_is (ClearsBoth k) = refl
  change_is (SetsMark n) = refl
  change_is (EndsWhen start surface depth) = refl
  change_is Finishes = refl

  changes_are : (changes : List nodes.Change) → changes_code view changes ≡ numbered_changes view (map (told_change view.number) changes)
  changes_are [] = refl
  changes_are (change ∷ rest) =
      ap (λ xs. xs ++ changes_code view rest) (change_is change)
      ∙ ap (λ xs. numbered_change view (told_change view.number change) ++ xs) (changes_are rest)

  guard_is : (n : Node) (condition : nodes.Condition) → guard_of view n condition ≡ numbered_guard view (view.number n) (told_condition view.number condition)
  guard_is n Flagged = refl
  guard_is n (Rested slot) = refl
  guard_is n (RestedIn slots) = refl
  guard_is n (Ended (IsNew m) needed) = refl
  guard_is n (Ended (IsOld m) needed) = refl
  guard_is n (Ended IsAny needed) = refl

  -- a test, by what changes where it is true and where it is false
  abbrev test_with : CExpr → List CStmt → List CStmt → List CStmt
  test_with test on_true on_false = choice_code test (spelled_truth test) on_true on_false

  test_is : (e : Expr) (on_true to on_false other : List CStmt) → on_true ≡ to → on_false ≡ other →
      test_with (code_made view.site e) on_true on_false ≡ test_with (code_made view.site e) to other
  test_is e on_true to on_false other one two =
      ap (λ x. test_with (code_made view.site e) x on_false) one ∙ ap (λ x. test_with (code_made view.site e) to x) two

  -- a `run` that begins, and one that goes on, by what changes then
  abbrev begun_with : ℕ → NumberedWord → List CStmt → List CStmt
  begun_with unit k on_true = c_clear (callee_frame k) (frame_name (name_in (slice_get view.site.earlier unit))) ∷ on_true

  abbrev resumed_with : ℕ → NumberedWord → Arguments → List CStmt → List CStmt
  resumed_with unit k arguments on_true =
      run_code view k unit arguments
      ++ stmt_where (may_end_in (slice_get view.site.earlier unit)) (c_if (c_read ended_place) (target_code view k arguments.target ++ on_true) None)

  own_is : (unit : ℕ) (rule : nodes.Transition) (n : Node) →
      own_code view unit rule n ≡ numbered_own view (told_rule view.number unit rule) (task_at view.number unit n)
  own_is unit rule (ActAt l s) = refl
  own_is unit rule (TestAt l at e) = refl
  own_is unit rule (CheckAt l at e) = refl
  own_is unit rule (EnterAt l at arguments) = ap (begun_with unit (word_at view at unit)) (changes_are rule.on_true)
  own_is unit rule (ResumeAt l at arguments) = refl
  own_is unit rule (PauseAt l at) = refl
  own_is unit rule (HeadAt l at) = refl
  own_is unit rule (StartAt l at) = refl
  own_is unit rule (SurfaceEndAt l at) = refl
  own_is unit rule (DepthEndAt l at) = refl
  own_is unit rule (ForkAt l at) = refl
  own_is unit rule (SurfaceJoinAt l at) = refl
  own_is unit rule (DepthJoinAt l at) = refl

  control_is : (unit : ℕ) (rule : nodes.Transition) (n : Node) →
      control_code view unit rule n ≡ numbered_control view (told_rule view.number unit rule) (task_at view.number unit n)
  control_is unit rule (ActAt l s) = changes_are rule.on_true
  control_is unit rule (TestAt l at e) = test_is e _ _ _ _ (changes_are rule.on_true) (changes_are rule.on_false)
  control_is unit rule (CheckAt l at e) = test_is e _ _ _ _ (changes_are rule.on_true) (changes_are rule.on_false)
  control_is unit rule (EnterAt l at arguments) = refl
  control_is unit rule (ResumeAt l at arguments) = ap (resumed_with unit (word_at view at unit) arguments) (changes_are rule.on_true)
  control_is unit rule (PauseAt l at) = changes_are rule.on_true
  control_is unit rule (HeadAt l at) = changes_are rule.on_true
  control_is unit rule (StartAt l at) = changes_are rule.on_true
  control_is unit rule (SurfaceEndAt l at) = changes_are rule.on_true
  control_is unit rule (DepthEndAt l at) = changes_are rule.on_true
  control_is unit rule (ForkAt l at) = changes_are rule.on_true
  control_is unit rule (SurfaceJoinAt l at) = changes_are rule.on_true
  control_is unit rule (DepthJoinAt l at) = changes_are rule.on_true

  flag_is : (n : Node) (condition : nodes.Condition) → flag_asked view n condition ≡ numbered_flag (view.number n) (told_condition view.number condition)
  flag_is n Flagged = refl
  flag_is n (Rested slot) = refl
  flag_is n (RestedIn slots) = refl
  flag_is n (Ended age needed) = refl

  part_is : (unit : ℕ) (n : Node) → run_part n ≡ numbered_part (task_at view.number unit n)
  part_is unit (ActAt l s) = refl
  part_is unit (TestAt l at e) = refl
  part_is unit (CheckAt l at e) = refl
  part_is unit (EnterAt l at arguments) = refl
  part_is unit (ResumeAt l at arguments) = refl
  part_is unit (PauseAt l at) = refl
  part_is unit (HeadAt l at) = refl
  part_is unit (StartAt l at) = refl
  part_is unit (SurfaceEndAt l at) = refl
  part_is unit (DepthEndAt l at) = refl
  part_is unit (ForkAt l at) = refl
  part_is unit (SurfaceJoinAt l at) = refl
  part_is unit (DepthJoinAt l at) = refl

  turn_is : (unit : ℕ) (rule : nodes.Transition) → node_turn view unit rule ≡ numbered_turn view (told_rule view.number unit rule)
  turn_is unit rule = λ i. record {
    test = guard_is rule.node rule.condition i;
    own = own_is unit rule rule.node i;
    control = control_is unit rule rule.node i;
    flag = flag_is rule.node rule.condition i;
    run = part_is unit rule.node i;
  }

  turns_are : (units : List ℕ) (rules : List nodes.Transition) →
      turns_of view units rules ≡ map (numbered_turn view) (all_told view.number units rules)
  turns_are [] rules = refl
  turns_are (unit ∷ units) [] = refl
  turns_are (unit ∷ units) (rule ∷ rules) =
      ap (λ (x : NodeCode). x ∷ turns_of view units rules) (turn_is unit rule)
      ∙ ap (λ (xs : List NodeCode). numbered_turn view (told_rule view.number unit rule) ∷ xs) (turns_are units rules)

pub blocks_are_numbered : BlocksAreNumbered
blocks_are_numbered = record { one = turn_is; all = turns_are }

pub bodies_are_numbered : BlocksAreNumbered → RulesAreListed → BodiesAreNumbered
bodies_are_numbered blocks listed view body order list number =
    blocks.all view (callees_in (plain_body body)) (nodes.rules (slots_of (plain_body body) list) (plain_body body))
    ∙ ap (λ (of : Node → ℕ). map (numbered_turn view)
    (all_told of (callees_in (plain_body body)) (nodes.rules (slots_of (plain_body body) list) (plain_body body)))) number
    ∙ ap (map (numbered_turn view)) (listed.told body order list)
