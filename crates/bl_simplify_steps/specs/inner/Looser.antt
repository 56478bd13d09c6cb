-- What is enough to know, and what is known first after an assignment.
use Rattle.std.specs.Prelude.{[], ◌∷◌, Option, Some, None}
use Rattle.bl_tree.specs.declared.c.CPlace.{CPlace}
use Rattle.bl_simplify_laws.specs.declared.facts.CSpot.{CSpot}
use Rattle.bl_simplify_laws.specs.declared.facts.Fact.{Fact}
use Rattle.bl_simplify_laws.specs.Known.{Valuation, place_is}
use Rattle.bl_simplify_laws.specs.Rules.{Facts, Weaker}

-- the second facts hold where the first do
pub record Looser (facts looser : Facts) : Type 0 where
  pub holds : Weaker facts looser

-- the entry of a spot that is known to have a fact
abbrev pub entry_of : Option CSpot → Option Fact → Valuation
entry_of (Some spot) (Some fact) = (spot, fact) ∷ []
entry_of (Some spot) None = []
entry_of None fact = []

-- the entry of a place that is set to a value of which a fact may be known
abbrev pub set_entry : CPlace → Option Fact → Valuation
set_entry place fact = entry_of (place_is place).spot fact
