use Rattle.std.proofs.Common.{◌≡◌, length}
use Rattle.bl_ctree_store.proofs.view.blanks.Given as goal

abbrev pub invariant-loop : goal.invariant-loop
invariant-loop l = length l.made ≡ l.counter
