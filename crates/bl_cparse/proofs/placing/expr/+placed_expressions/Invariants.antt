use Rattle.std.proofs.Common.{◌≡◌, ℕ, ◌≤◌, true, get_or, length, map, take}
use Rattle.bl_tree.specs.declared.c.CArg.{CArg}
use Rattle.bl_tree.specs.declared.c.CStep.{CStep}
use Rattle.bl_ctext.specs.Spelling.{arg_tokens, step_tokens}
use Rattle.bl_ctext.specs.Spellable.{spells_arg, spells_step}
use Rattle.bl_cparse.specs.HasPlaces.{arg_walk, in_list, in_turn, step_walk}
use Rattle.bl_cparse.proofs.placing.expr.+placed_expressions.Given as goal

-- those before the next one have their places, and it and those behind it are as they were
abbrev pub invariant-args-loop-k : goal.invariant-args-loop-k
invariant-args-loop-k l = record {
  places : in_list true (map arg_walk (take l.k l.args)) l.fn.spot ≡ (take l.k l.args, l.spot);
  tokens : map arg_tokens l.args ≡ map arg_tokens l.fn.args;
  spells : map spells_arg l.args ≡ map spells_arg l.fn.args;
  many : length l.args ≡ length l.fn.args;
  rest : (n : ℕ) (d : CArg) → l.k ≤ n → get_or l.args n d ≡ get_or l.fn.args n d;
}

abbrev pub invariant-steps-loop-k : goal.invariant-steps-loop-k
invariant-steps-loop-k l = record {
  places : in_turn (map step_walk (take l.k l.steps)) l.fn.spot ≡ (take l.k l.steps, l.spot);
  tokens : map step_tokens l.steps ≡ map step_tokens l.fn.steps;
  spells : map spells_step l.steps ≡ map spells_step l.fn.steps;
  many : length l.steps ≡ length l.fn.steps;
  rest : (n : ℕ) (d : CStep) → l.k ≤ n → get_or l.steps n d ≡ get_or l.fn.steps n d;
}
