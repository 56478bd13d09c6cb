use Rattle.std.proofs.Common.{◌≡◌, ◌+◌, ◌-◌, ◌*◌, ◌++◌, max, map, drop, true, false}
use Rattle.std.specs.Prelude.{option_map}
use Rattle.bl_tree.specs.declared.tree.Expr.{size-Expr}
use Rattle.bl_tree.specs.declared.tree.Part.{size-Part}
use Rattle.bl_eval.specs.Changes.{choice_of, part_of_path, scope_in, targets_of, view_in}
use Rattle.bl_eval.specs.Functions.{condition, does, first_true_choice, in_order, looped, most_turns}
use Rattle.bl_eval.specs.Meaning.{meaning_of, path_meaning_of, positions_of, values_of}
use Rattle.bl_eval.proofs.Weights.{arms_weight, block_weight, exprs_depth, optional_depth, parts_depth, paths_depth, stmt_weight, units_weight, what_weight}
use Rattle.bl_eval.proofs.evaluation.+evaluation.Given as goal

abbrev pub decreases-evaluate : goal.decreases-evaluate
decreases-evaluate l = 8 * (units_weight l.site.now.earlier.now + size-Expr l.e.now) + 1

abbrev pub decreases-positions : goal.decreases-positions
decreases-positions l = 8 * (units_weight l.site.now.earlier.now + parts_depth l.parts.now) + 3

abbrev pub decreases-position_at : goal.decreases-position_at
decreases-position_at l = 8 * (units_weight l.site.now.earlier.now + size-Part l.part.now) + 2

abbrev pub decreases-arguments : goal.decreases-arguments
decreases-arguments l = 8 * (units_weight l.site.now.earlier.now + exprs_depth l.inputs.now) + 2

abbrev pub decreases-call : goal.decreases-call
decreases-call l = 8 * units_weight l.earlier.now

abbrev pub decreases-condition : goal.decreases-condition
decreases-condition l = 8 * (units_weight l.site.now.earlier.now + optional_depth (option_map (λ e. e.now) l.e)) + 2

abbrev pub decreases-changes : goal.decreases-changes
decreases-changes l = 8 * (units_weight l.site.now.earlier.now + what_weight l.what.now) + 2

abbrev pub decreases-procedure : goal.decreases-procedure
decreases-procedure l = 8 * (units_weight l.site.now.earlier.now + max (exprs_depth l.inputs.now) (paths_depth l.outputs.now)) + 5

abbrev pub decreases-targets : goal.decreases-targets
decreases-targets l = 8 * (units_weight l.site.now.earlier.now + paths_depth l.outputs.now) + 4

abbrev pub decreases-block : goal.decreases-block
decreases-block l = 8 * (units_weight l.site.now.earlier.now + block_weight l.body.now) + 3

abbrev pub decreases-statement : goal.decreases-statement
decreases-statement l = 8 * (units_weight l.site.now.earlier.now + stmt_weight l.s.now) + 2

abbrev pub decreases-choice : goal.decreases-choice
decreases-choice l = 8 * (units_weight l.site.now.earlier.now + max (arms_weight l.arms.now) (block_weight l.other.now)) + 4

abbrev pub decreases-turns : goal.decreases-turns
decreases-turns l =
    8 * (units_weight l.site.now.earlier.now
    + max (block_weight l.body.now) (max (optional_depth (option_map (λ e. e.now) l.goes)) (optional_depth (option_map (λ e. e.now) l.ends)))) + 4

abbrev pub invariant-arguments-loop-e : goal.invariant-arguments-loop-e
invariant-arguments-loop-e l =
    option_map (λ values. l.values ++ values) (values_of (map (meaning_of (scope_in l.site)) (drop l.e-index l.inputs)) (view_in l.view))
    ≡ values_of (map (meaning_of (scope_in l.site)) l.inputs) (view_in l.view)

abbrev pub invariant-positions-loop-part : goal.invariant-positions-loop-part
invariant-positions-loop-part l =
    option_map (λ ks. l.positions ++ ks) (positions_of (map (part_of_path (scope_in l.site)) (drop l.part-index l.parts)) (view_in l.view))
    ≡ positions_of (map (part_of_path (scope_in l.site)) l.parts) (view_in l.view)

abbrev pub invariant-targets-loop-path : goal.invariant-targets-loop-path
invariant-targets-loop-path l =
    option_map (λ rest. l.targets ++ rest) (targets_of (map (path_meaning_of (scope_in l.site)) (drop l.path-index l.outputs)) (view_in l.view))
    ≡ targets_of (map (path_meaning_of (scope_in l.site)) l.outputs) (view_in l.view)

abbrev pub invariant-block-loop-s : goal.invariant-block-loop-s
invariant-block-loop-s l =
    in_order (map (does (scope_in l.site)) (drop l.s-index l.body)) l.frame.items ≡ in_order (map (does (scope_in l.site)) l.body) l.initial.frame.items

abbrev pub invariant-choice-loop-arm : goal.invariant-choice-loop-arm
invariant-choice-loop-arm l =
    first_true_choice (map (choice_of (scope_in l.site)) (drop l.arm-index l.arms)) (in_order (map (does (scope_in l.site)) l.other)) l.frame.items
    ≡ first_true_choice (map (choice_of (scope_in l.site)) l.arms) (in_order (map (does (scope_in l.site)) l.other)) l.initial.frame.items

abbrev pub invariant-turns-loop : goal.invariant-turns-loop
invariant-turns-loop l =
    looped (condition (scope_in l.site) (option_map (λ e. e.now) l.goes) true) (in_order (map (does (scope_in l.site)) l.body))
    (condition (scope_in l.site) (option_map (λ e. e.now) l.ends) false) (most_turns - l.counter) l.frame.items
    ≡ looped (condition (scope_in l.site) (option_map (λ e. e.now) l.goes) true) (in_order (map (does (scope_in l.site)) l.body))
    (condition (scope_in l.site) (option_map (λ e. e.now) l.ends) false) most_turns l.initial.frame.items
