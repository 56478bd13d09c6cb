use Rattle.std.proofs.Common.{◌≡◌, ◌++◌, drop}
use Rattle.bl_types.specs.Programs.{after_items, globals_of}
use Rattle.bl_types.specs.inner.States.{after}
use Rattle.bl_types.proofs.program.items.Given as goal

abbrev pub invariant-loop-one : goal.invariant-loop-one
invariant-loop-one l = record {
  state : after l.state (after_items l.named (drop l.one-index l.order)) ≡ after l.initial.state (after_items l.named l.order);
  globals : l.globals ++ globals_of l.named (drop l.one-index l.order) l.state.env
      ≡ l.initial.globals ++ globals_of l.named l.order l.initial.state.env;
}
