use Rattle.std.proofs.Common.{◌≡◌, ◌++◌, take}
use Rattle.bl_simplify_facts.proofs.entries.add_entries.Given as goal

abbrev pub invariant-loop-entry : goal.invariant-loop-entry
invariant-loop-entry l = l.all ≡ l.fn.all ++ take l.entry-index l.it
