use Rattle.std.proofs.Common.{◌≡◌, [], ◌∷◌, ◌++◌, IsTrue, map, drop}
use Rattle.std.specs.Prelude.{codes}
use Rattle.bl_tree.specs.Reduce.{all_of, joined}
use Rattle.bl_ctext.specs.Spelling.{listed, place_tokens, ccall_tokens, step_tokens, arg_tokens}
use Rattle.bl_ctext.specs.Spellable.{spells_step, spells_arg}
use Rattle.bl_ctext.proofs.printer.expr.+expressions.Given as goal

abbrev pub invariant-place-loop-step : goal.invariant-place-loop-step
invariant-place-loop-step l =
    IsTrue (all_of (map spells_step (drop l.step-index l.step-items))) ×
    (l.out ++ joined (map step_tokens (drop l.step-index l.step-items)) ≡ l.fn.out ++ place_tokens l.at)

abbrev pub invariant-call-loop-arg : goal.invariant-call-loop-arg
invariant-call-loop-arg l =
    IsTrue (all_of (map spells_arg (drop l.arg-index l.arg-items))) ×
    (l.out ++ (listed l.first (map arg_tokens (drop l.arg-index l.arg-items)) ++ codes ")" ∷ []) ≡ l.fn.out ++ ccall_tokens l.called)
