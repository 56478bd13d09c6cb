-- How the costs of functions are written.
use Rattle.std.specs.Prelude.{ℕ, List, [], ◌∷◌, ◌++◌, map, codes, decimal}
use Rattle.bl_tree.specs.declared.c.CFunc.{CFunc}
use Rattle.bl_tree.specs.declared.text.Text.{Text}
use Rattle.bl_tree.specs.Reduce.{joined}
use Rattle.bl_ctext_semantics.specs.Cost.{costs}
use Rattle.bl_bound.specs.declared.cost.Cost.{Cost}
use Rattle.bl_bound.specs.declared.cost.Cost.TheVariants.{Number, Over}
use Rattle.bl_bound.specs.Told.{reported_cost}

-- a cost, in decimal digits where it is a number
abbrev pub cost_text : Cost → List ℕ
cost_text (Number n) = decimal n
cost_text Over = codes "over"

-- the line of a function: its name, a space (32), its cost and a line feed (10)
abbrev pub line_text : Text → Cost → List ℕ
line_text name cost = name ++ (32 ∷ (cost_text cost ++ (10 ∷ [])))

-- the lines of functions with their costs, in order
abbrev pub costs_text : List (Text × ℕ) → List ℕ
costs_text costs = joined (map (λ cost. line_text cost.0 (reported_cost cost.1)) costs)

-- the lines of a file's functions with their costs, in order
abbrev pub bound_text : List CFunc → List ℕ
bound_text functions = costs_text (costs functions)
