use Rattle.std.proofs.Common.{◌≡◌, drop, map}
use Rattle.bl_tree.specs.declared.place.Place.{Place}
use Rattle.bl_machine_transitions.specs.Runs.{kept_number, run_number}
use Rattle.bl_machine_transitions.specs.Told.{rule_in}
use Rattle.bl_machine_transitions.proofs.numbers.RunNumbers.of.Given as goal

abbrev pub invariant-loop-k : goal.invariant-loop-k
invariant-loop-k l = (q : Place) → kept_number l.numbers q ≡ run_number (map rule_in (drop l.k l.rules)) q
