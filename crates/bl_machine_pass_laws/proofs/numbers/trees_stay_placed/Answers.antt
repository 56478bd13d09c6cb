use Rattle.bl_machine.specs.Uses.{uses_in}
use Rattle.bl_machine_pass.specs.Transitions.{Finishes, rules, rules_in}
use Rattle.bl_machine_pass_laws.proofs.OnNumbers.Lying.{block_lies, block_uses, lies_turn, uses_turn, woken_lies, woken_uses}
use Rattle.bl_machine_pass_laws.proofs.OnNumbers.Members.{each_of}
use Rattle.bl_machine_pass_laws.proofs.OnNumbers.Sitting.{block_sits, nodes_of_rules_in, sits_turn, woken_sits}
use Rattle.bl_machine_pass_laws.proofs.numbers.trees_stay_placed.Goals as goal

pub returns : goal.returns
returns c = record {
  nodes = λ slots body. nodes_of_rules_in slots body Finishes;
  begins = λ slots body laid. record {
    sits = block_sits slots (rules slots body) body Finishes (each_of (rules slots body) (rules_in slots body Finishes) (λ rule there. there));
    lies = block_lies slots 0 body laid.rests;
    uses = block_uses slots (uses_in slots body) body (λ j h. h);
  };
  wakes = λ slots body tree placed. record {
    sits = woken_sits slots (rules slots body) tree Finishes placed.sits;
    lies = woken_lies slots 0 tree placed.lies;
    uses = woken_uses slots (uses_in slots body) tree placed.uses;
  };
  turns = λ w rank i slots body tree done n after laid t placed. record {
    sits = sits_turn slots (rules slots body) Finishes t placed.sits;
    lies = lies_turn slots 0 t placed.lies;
    uses = uses_turn slots (uses_in slots body) t placed.uses;
  };
}
