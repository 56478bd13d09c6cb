-- What is known where a function begins, as code computes it.
use Rattle.std.specs.Prelude.{pos, false, List, ◌∷◌, map, None}
use Rattle.bl_tree.specs.Reduce.{joined}
use Rattle.bl_tree.specs.declared.text.Text.{Text}
use Rattle.bl_simplify_laws.specs.declared.facts.CSpot.{CSpot}
use Rattle.bl_simplify_laws.specs.declared.facts.Fact.{Fact}
use Rattle.bl_simplify_laws.specs.declared.facts.Fact.TheVariants.{Is}
use Rattle.bl_simplify_laws.specs.Rules.{Facts}
use Rattle.bl_simplify_facts.specs.declared.entries.Entry.{Entry}

-- the entry that says that the variable of a name is 0
abbrev pub zero_of : Text → Entry
zero_of name = record { spot = record { through = false; name = name; first = None }; fact = Is (pos 0) }

-- each valuation with each of these facts of a spot
abbrev pub parted : CSpot → List Fact → Facts → Facts
parted spot parts facts = joined (map (λ known. map (λ fact. (spot, fact) ∷ known) parts) facts)
