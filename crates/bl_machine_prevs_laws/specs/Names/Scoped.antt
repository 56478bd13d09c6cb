-- What a part of a body declares for those that follow it, and whether each variable that it names is declared before: in its block
-- or in one around it.
use Rattle.std.specs.Prelude.{ℕ, suc, zero, Bool, true, ◌&&◌, nat_eq, List, [], ◌∷◌, ◌++◌}
use Rattle.std.specs.List.{list_all, list_any}
use Rattle.bl_tree.specs.Apart.{Roots}

-- whether a variable is among the known ones
abbrev pub is_known : Roots → ℕ → Bool
is_known known k = list_any (nat_eq k) known

-- whether the variables are all among the known ones
abbrev pub are_known : Roots → Roots → Bool
are_known known ks = list_all (is_known known) ks

-- the first n variables of a unit
abbrev pub first_ones : ℕ → Roots
first_ones zero = []
first_ones (suc n) = n ∷ first_ones n

-- the variables that a part declares for what follows it, and whether it names only variables known before it
pub record Scoped : Type 0 where
  pub declared : Roots
  pub stands : Roots → Bool

-- whether parts one after another name known variables alone: each knows what those before it declare
abbrev pub stand_in_turn : List Scoped → Roots → Bool
stand_in_turn [] known = true
stand_in_turn (part ∷ rest) known = part.stands known && stand_in_turn rest (part.declared ++ known)

-- whether parts beside each other name known variables alone; none knows what another declares
abbrev pub every : List Scoped → Roots → Bool
every parts known = list_all (λ (part : Scoped). part.stands known) parts

-- a part that declares nothing and names the given variables
abbrev pub naming : Roots → Scoped
naming roots = record { declared = []; stands = λ known. are_known known roots }

-- the declaration of a variable whose initial value names the given variables
abbrev pub declaring : ℕ → Roots → Scoped
declaring k roots = record { declared = k ∷ []; stands = λ known. are_known known roots }

-- the scoping of a block
abbrev pub scoped_block : List Scoped → Scoped
scoped_block body = record { declared = []; stands = stand_in_turn body }

-- a block, and an expression beside it that names the given variables outside of the block's scope
abbrev pub block_and_condition : Roots → List Scoped → Scoped
block_and_condition roots body = record { declared = []; stands = λ known. are_known known roots && stand_in_turn body known }

-- the scoping of branches beside one another
abbrev pub scoped_branches : List Scoped → Scoped
scoped_branches parts = record { declared = []; stands = every parts }

-- the arms of an `if` and its `else` block
abbrev pub scoped_arms : List Scoped → List Scoped → Scoped
scoped_arms arms other = record { declared = []; stands = λ known. every arms known && stand_in_turn other known }
