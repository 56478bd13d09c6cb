-- What is told of how many statements the functions of a file can execute.
use Rattle.std.specs.Prelude.{ℕ, ◌^◌, List, map, nat_lt, if◌then◌else◌}
use Rattle.bl_tree.specs.declared.c.CFunc.{CFunc}
use Rattle.bl_ctext_semantics.specs.Cost.{costs}
use Rattle.bl_bound.specs.declared.cost.Cost.{Cost}
use Rattle.bl_bound.specs.declared.cost.Cost.TheVariants.{Number, Over}

-- the cost that is reported for a number: the number if 128 bits hold it, and else that it is over them
abbrev pub reported_cost : ℕ → Cost
reported_cost n = if nat_lt n (2 ^ 128) then Number n else Over

-- the reported costs of the functions, in order
abbrev pub told_costs : List CFunc → List Cost
told_costs functions = map (λ cost. reported_cost cost.1) (costs functions)
