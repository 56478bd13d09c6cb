-- Numbers of statements as costs tell them.
use Rattle.std.specs.Prelude.{ℕ, ◌^◌, min, List, Option, Some, None, option_map}
use Rattle.std.specs.Borrow.{Bor}
use Rattle.std.specs.HashMap.{HashMap}
use Rattle.bl_ctext_semantics.specs.Cost.{Costs}
use Rattle.bl_ctext_semantics.specs.Tables.{Table}
use Rattle.bl_ctext_semantics.specs.inner.Maps.{text_at}
use Rattle.bl_bound.specs.declared.cost.Cost.{Cost}
use Rattle.bl_bound.specs.declared.cost.Cost.TheVariants.{Number, Over}

-- a number, or 2 ^ 128 for all that 128 bits can't hold
abbrev pub capped : ℕ → ℕ
capped n = min n (2 ^ 128)

-- the number that a cost stands for
abbrev pub amount : Cost → ℕ
amount (Number n) = capped n
amount Over = 2 ^ 128

-- the number that an optional cost stands for; none means that 128 bits can't hold it
abbrev pub amount_if : Option ℕ → ℕ
amount_if (Some n) = capped n
amount_if None = 2 ^ 128

-- the costs of functions in a table
abbrev pub amounts : Table Cost → Costs
amounts known name = option_map amount (known name)

-- the costs of functions in a map, by name
abbrev pub costs_in : {S : Type 0} → HashMap (Bor (List ℕ)) Cost S → Costs
costs_in known = amounts (text_at known)
