-- The C of a block of a pass, where nodes are told by their numbers.
use Rattle.std.specs.Prelude.{ℕ, true, List, [], ◌∷◌, ◌++◌, map, Option, Some, None, if◌then◌else◌, slice_get}
use Rattle.bl_tree.specs.declared.c.CExpr.{CExpr}
use Rattle.bl_tree.specs.declared.c.CStmt.{CStmt}
use Rattle.bl_tree.specs.declared.scalar.Op.TheVariants.{And}
use Rattle.bl_graph_nodes.specs.Nodes.{Arguments}
use Rattle.bl_emit_acts.specs.Acts.{c_clear, c_set, code_made}
use Rattle.bl_emit_acts.specs.Trees.{c_not, c_read, c_two}
use Rattle.bl_emit_functions.specs.Trees.{c_if, c_truth}
use Rattle.bl_machine_transitions.specs.declared.transition.Age.{Age}
use Rattle.bl_machine_transitions.specs.declared.transition.Age.TheVariants as age
use Rattle.bl_machine_transitions.specs.declared.transition.Condition.{Condition}
use Rattle.bl_machine_transitions.specs.declared.transition.Condition.TheVariants as condition
use Rattle.bl_machine_transitions.specs.declared.transition.Change.{Change}
use Rattle.bl_machine_transitions.specs.declared.transition.Change.TheVariants as change
use Rattle.bl_machine_transitions.specs.declared.transition.Needed.{Needed}
use Rattle.bl_machine_transitions.specs.Told.{Acts, Enters, Nothing, NumberedTransition, Resumes, Task, Tests}
use Rattle.bl_emit_spec.specs.Blocks.{ActivityView, NodeCode, acted, all_tests, at_slot, choice_code, counter_value, forgotten, freed, may_end_in, name_in}
use Rattle.bl_emit_spec.specs.Blocks.{Begins, GoesOn, NoRun, RunPart, rested_at, rested_in, run_code, some_test, spelled_truth, stmt_where, target_code}
use Rattle.bl_emit_spec.specs.Blocks.{word_at}
use Rattle.bl_emit_spec.specs.Names.{NumberedWord, callee_frame, counter_place, ended_place, flag_place, frame_name, mark_place, over_place, with_word}

-- ---- guards

-- whether as many branches have ended as are needed
abbrev pub numbered_ends : ActivityView → Needed → CExpr
numbered_ends view needed =
    if needed.all then all_tests (map (at_slot view) needed.slots) else some_test (map (at_slot view) needed.slots)

-- the test whether enough branches of a `cobegin` of that age have ended
abbrev pub numbered_aged : ActivityView → Age → CExpr → CExpr
numbered_aged view (age.New k) ends = c_two And (c_read (mark_place (with_word view.word k))) ends
numbered_aged view (age.Old k) ends = c_two And (c_not (c_read (mark_place (with_word view.word k)))) ends
numbered_aged view age.Any ends = ends

-- what is asked before the node with this number acts
abbrev pub numbered_guard : ActivityView → ℕ → Condition → CExpr
numbered_guard view k condition.Flagged = c_read (flag_place (with_word view.word k))
numbered_guard view k (condition.Rested slot) = rested_at view slot
numbered_guard view k (condition.RestedIn slots) = rested_in view slots
numbered_guard view k (condition.Ended age needed) = numbered_aged view age (numbered_ends view needed)

-- ---- changes

-- the flag of a number is set
abbrev pub flag_set : ActivityView → ℕ → CStmt
flag_set view k = c_set (flag_place (with_word view.word k)) (c_truth true)

-- the C of a change
abbrev pub numbered_change : ActivityView → Change → List CStmt
numbered_change view (change.SetFlag k) = flag_set view k ∷ []
numbered_change view (change.SetCounter slot) =
    c_set (counter_place slot.counter) (counter_value view.sizes slot.counter slot.value) ∷ []
numbered_change view (change.ClearCounter k) = freed view k ∷ []
numbered_change view (change.ClearBoth k) = forgotten view k (view.is_read k)
numbered_change view (change.SetMark k) = c_set (mark_place (with_word view.word k)) (c_truth true) ∷ []
numbered_change view (change.EndWhen start surface depth) =
    c_if (c_read (mark_place (with_word view.word start))) (flag_set view surface ∷ []) (Some (flag_set view depth ∷ [])) ∷ []
numbered_change view change.Finish = c_set over_place (c_truth true) ∷ []

-- the C of changes one after another
abbrev pub numbered_changes : ActivityView → List Change → List CStmt
numbered_changes view [] = []
numbered_changes view (change ∷ rest) = numbered_change view change ++ numbered_changes view rest

-- ---- blocks

-- a test: changes where it is true, and others where it is false
abbrev pub numbered_tested : ActivityView → CExpr → NumberedTransition → List CStmt
numbered_tested view test rule =
    choice_code test (spelled_truth test) (numbered_changes view rule.on_true) (numbered_changes view rule.on_false)

-- the C of a `run` that begins, before its call, by the number and word in its C names and the position of the activity that it calls
abbrev pub numbered_begun : ActivityView → NumberedWord → ℕ → List Change → List CStmt
numbered_begun view k a on_true = c_clear (callee_frame k) (frame_name (name_in (slice_get view.site.earlier a))) ∷ numbered_changes view on_true

-- the C of a `run` that goes on, by the number and word in its C names and the position of the activity that it calls
abbrev pub numbered_resumed : ActivityView → NumberedWord → ℕ → Arguments → List Change → List CStmt
numbered_resumed view k a arguments on_true =
    run_code view k a arguments
    ++ stmt_where (may_end_in (slice_get view.site.earlier a))
    (c_if (c_read ended_place) (target_code view k arguments.target ++ numbered_changes view on_true) None)

-- what a node does itself, by what is done there
abbrev pub numbered_own : ActivityView → NumberedTransition → Task → List CStmt
numbered_own view rule (Nothing kind) = []
numbered_own view rule (Acts s) = acted view s
numbered_own view rule (Tests e) = []
numbered_own view rule (Enters at a arguments) = numbered_begun view (word_at view at a) a rule.on_true
numbered_own view rule (Resumes at a arguments) = []

-- how a node goes on, by what is done there
abbrev pub numbered_control : ActivityView → NumberedTransition → Task → List CStmt
numbered_control view rule (Nothing kind) = numbered_changes view rule.on_true
numbered_control view rule (Acts s) = numbered_changes view rule.on_true
numbered_control view rule (Tests e) = numbered_tested view (code_made view.site e) rule
numbered_control view rule (Enters at a arguments) = run_code view (word_at view at a) a arguments
numbered_control view rule (Resumes at a arguments) = numbered_resumed view (word_at view at a) a arguments rule.on_true

-- the part of a node in a `run`, by what is done there
abbrev pub numbered_part : Task → RunPart
numbered_part (Nothing kind) = NoRun
numbered_part (Acts s) = NoRun
numbered_part (Tests e) = NoRun
numbered_part (Enters at a arguments) = Begins at
numbered_part (Resumes at a arguments) = GoesOn at

-- the number of the flag of the node with this number, where the condition asks for it
abbrev pub numbered_flag : ℕ → Condition → Option ℕ
numbered_flag k condition.Flagged = Some k
numbered_flag k (condition.Rested slot) = None
numbered_flag k (condition.RestedIn slots) = None
numbered_flag k (condition.Ended age needed) = None

-- the turn of a rule: what is asked before its node, what that does itself, and how it goes on
abbrev pub numbered_turn : ActivityView → NumberedTransition → NodeCode
numbered_turn view rule = record {
  test = numbered_guard view rule.number rule.condition;
  own = numbered_own view rule rule.task;
  control = numbered_control view rule rule.task;
  flag = numbered_flag rule.number rule.condition;
  run = numbered_part rule.task;
}
