-- What is told of the worked examples.
use Rattle.std.specs.Prelude.{false, true, [], ◌∷◌}
use Rattle.bl_ctree_laws.specs.Trees.{Idle}
use Rattle.bl_ctree_laws_examples.specs.Trees.TwoWay as two_way
use Rattle.bl_machine_pass_laws_examples.specs.Aborting as aborting
use Rattle.bl_machine_pass_laws_examples.specs.Blinking as blinking
use Rattle.bl_machine_pass_laws_examples.specs.Calling as calling
use Rattle.bl_machine_pass_laws_examples.specs.Fields as fields
use Rattle.bl_machine_pass_laws_examples.specs.Resetting as resetting
use Rattle.bl_machine_pass_laws_examples.specs.TwoBranches as two_branches
use Rattle.bl_machine_pass_laws_examples.specs.Weakly as weakly
use Rattle.bl_machine_pass_laws_examples.specs.Worked.{Lists, Ticks, WorkedExample, alone, slot}

-- the state of each example after each tick: the numbers of its resting places in source order, the trees, and the counters
pub record NumbersOfRows : Type 0 where
  -- one counter that tells two pauses
  pub blinking : WorkedExample blinking.body (slot 0 1 ∷ slot 0 2 ∷ [])
      (blinking.lit ∷ blinking.dark ∷ blinking.lit ∷ blinking.dark ∷ [])
      ((1 ∷ []) ∷ (2 ∷ []) ∷ (1 ∷ []) ∷ (2 ∷ []) ∷ [])
  -- two branches count beside each other: the end of each is the first of its counter
  pub two_branches : WorkedExample two_way.plain_statements (slot 0 1 ∷ slot 0 2 ∷ slot 1 1 ∷ slot 1 2 ∷ [])
      (two_branches.after_first_tick ∷ two_branches.later ∷ [])
      ((2 ∷ 2 ∷ []) ∷ (2 ∷ 2 ∷ []) ∷ [])
  -- two branches that write fields of one struct count beside each other
  pub fields : WorkedExample fields.body (slot 0 1 ∷ slot 0 2 ∷ slot 1 1 ∷ slot 1 2 ∷ [])
      (fields.paused false ∷ fields.paused true ∷ [])
      ((2 ∷ 2 ∷ []) ∷ (2 ∷ 2 ∷ []) ∷ [])
  -- two calls rest in the caller
  pub caller : WorkedExample calling.body (slot 0 1 ∷ slot 0 2 ∷ slot 1 1 ∷ slot 1 2 ∷ [])
      (calling.paused ∷ calling.paused ∷ calling.paused ∷ [])
      ((2 ∷ 2 ∷ []) ∷ (2 ∷ 2 ∷ []) ∷ (2 ∷ 2 ∷ []) ∷ [])
  -- each called activity has a counter of its own
  pub first_called : WorkedExample calling.first_body (slot 0 1 ∷ []) (calling.first_paused ∷ []) ((1 ∷ []) ∷ [])
  pub second_called : WorkedExample calling.second_body (slot 0 1 ∷ []) (calling.second_paused ∷ []) ((1 ∷ []) ∷ [])
  -- what is given up and what follows it rest at one counter
  pub aborting : WorkedExample aborting.body (slot 0 1 ∷ slot 0 2 ∷ [])
      (aborting.after_first_tick ∷ aborting.over ∷ [])
      ((1 ∷ []) ∷ (2 ∷ []) ∷ [])
  -- what begins anew rests where it did
  pub resetting : WorkedExample resetting.body (slot 0 1 ∷ slot 0 2 ∷ slot 1 1 ∷ slot 1 2 ∷ [])
      (resetting.paused false ∷ resetting.paused true ∷ resetting.paused true ∷ resetting.paused true ∷ [])
      ((2 ∷ 2 ∷ []) ∷ (2 ∷ 2 ∷ []) ∷ (2 ∷ 2 ∷ []) ∷ (2 ∷ 2 ∷ []) ∷ [])
  -- no branch keeps a number where a `cobegin` has ended, a weak one neither
  pub weakly : WorkedExample weakly.body (slot 0 1 ∷ slot 0 2 ∷ slot 1 1 ∷ slot 1 2 ∷ slot 0 3 ∷ [])
      (weakly.paused false ∷ weakly.paused true ∷ weakly.over ∷ [])
      ((2 ∷ 2 ∷ []) ∷ (2 ∷ 2 ∷ []) ∷ (3 ∷ 0 ∷ []) ∷ [])

-- the passes of the ticks lead to these trees, one after another, with these deeds and answers
pub record PassesOfRows : Type 0 where
  pub blinking : Ticks alone (blinking.order ∷ []) (Idle blinking.body)
      (blinking.first_half ∷ blinking.second_half ∷ blinking.again ∷ blinking.second_half ∷ [])
      (blinking.lit ∷ blinking.dark ∷ blinking.lit ∷ blinking.dark ∷ [])
  pub two_branches : Ticks alone (two_branches.order ∷ []) (Idle two_way.plain_statements)
      (two_branches.first_tick ∷ two_branches.later_tick ∷ [])
      (two_branches.after_first_tick ∷ two_branches.later ∷ [])
  pub fields : Ticks alone (fields.order ∷ []) (Idle fields.body)
      (fields.first_tick ∷ fields.later_tick ∷ [])
      (fields.paused false ∷ fields.paused true ∷ [])
  pub calling : Ticks calling.program calling.orders (Idle calling.body)
      (calling.first_tick ∷ calling.later_tick ∷ calling.later_tick ∷ [])
      (calling.paused ∷ calling.paused ∷ calling.paused ∷ [])
  pub aborting : Ticks alone (aborting.order ∷ []) (Idle aborting.body)
      (aborting.first_tick ∷ aborting.aborts ∷ [])
      (aborting.after_first_tick ∷ aborting.over ∷ [])
  pub resetting : Ticks alone (resetting.order ∷ []) (Idle resetting.body)
      (resetting.first_tick ∷ resetting.later_tick ∷ resetting.resets ∷ resetting.later_tick ∷ [])
      (resetting.paused false ∷ resetting.paused true ∷ resetting.paused true ∷ resetting.paused true ∷ [])
  pub weakly : Ticks alone (weakly.order ∷ []) (Idle weakly.body)
      (weakly.first_tick ∷ weakly.later_tick ∷ weakly.ends ∷ [])
      (weakly.paused false ∷ weakly.paused true ∷ weakly.over ∷ [])

-- the nodes of each body are those that stand in its order
pub record NodesOfRows : Type 0 where
  pub blinking : Lists blinking.order blinking.body
  pub two_branches : Lists two_branches.order two_way.plain_statements
  pub fields : Lists fields.order fields.body
  pub caller : Lists calling.caller_order calling.body
  pub first_called : Lists calling.first_order calling.first_body
  pub second_called : Lists calling.second_order calling.second_body
  pub aborting : Lists aborting.order aborting.body
  pub resetting : Lists resetting.order resetting.body
  pub weakly : Lists weakly.order weakly.body
