-- The numbers and the nodes of the worked examples, by computation.
use Rattle.std.proofs.Common.{refl}
use Rattle.bl_machine_pass_laws_examples.specs.Laws.{NodesOfRows, NumbersOfRows}

pub numbers : NumbersOfRows
numbers = record {
  blinking = record { slots = refl; counters = refl; settled = refl };
  two_branches = record { slots = refl; counters = refl; settled = refl };
  fields = record { slots = refl; counters = refl; settled = refl };
  caller = record { slots = refl; counters = refl; settled = refl };
  first_called = record { slots = refl; counters = refl; settled = refl };
  second_called = record { slots = refl; counters = refl; settled = refl };
  aborting = record { slots = refl; counters = refl; settled = refl };
  resetting = record { slots = refl; counters = refl; settled = refl };
  weakly = record { slots = refl; counters = refl; settled = refl };
}

pub nodes : NodesOfRows
nodes = record {
  blinking = record { all = refl; as_many = refl };
  two_branches = record { all = refl; as_many = refl };
  fields = record { all = refl; as_many = refl };
  caller = record { all = refl; as_many = refl };
  first_called = record { all = refl; as_many = refl };
  second_called = record { all = refl; as_many = refl };
  aborting = record { all = refl; as_many = refl };
  resetting = record { all = refl; as_many = refl };
  weakly = record { all = refl; as_many = refl };
}
