-- How many statements the ticks of a C text execute at most.
use Rattle.std.specs.Prelude.{◌≤◌, ℤ, List, All}
use Rattle.bl_ctext_semantics_laws_places.specs.Behaviour.{Behaviour}
use Rattle.bl_bound_laws.specs.Counts.{counts_after}

-- no tick executes more statements than the bound, the cost of `bl_tick`, from any cells and with any inputs. This includes ticks that trap or end the run
pub record IsBounded (behaviour : Behaviour) : Type 0 where
  pub ticks : (cells ins : List ℤ) → (behaviour.tick cells ins).count ≤ behaviour.bound
  -- no tick of a run over rows executes more statements than the bound
  pub runs : (rows : List (List ℤ)) → All (λ n. n ≤ behaviour.bound) (counts_after behaviour.tick behaviour.start rows)
