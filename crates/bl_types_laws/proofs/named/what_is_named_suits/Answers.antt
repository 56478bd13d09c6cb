use Rattle.bl_types_laws.proofs.WhatSuits.{constants_call_functions, units_are_named}
use Rattle.bl_types_laws.proofs.named.what_is_named_suits.Goals as goal

pub returns-clause-units : goal.returns-clause-units
returns-clause-units c = λ items bytes keeps passes k unit there earlier kinds counts after is step.
    units_are_named items bytes keeps passes k unit there earlier kinds

pub returns-clause-constants : goal.returns-clause-constants
returns-clause-constants c = constants_call_functions
