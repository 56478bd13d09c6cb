-- What entries of code say.
use Rattle.std.specs.Prelude.{List, map}
use Rattle.bl_simplify_laws.specs.Known.{Valuation}
use Rattle.bl_simplify_laws.specs.Rules.{Facts}
use Rattle.bl_simplify_facts.specs.declared.entries.Entry.{Entry}

-- the valuation of one case
abbrev pub valuation : List Entry → Valuation
valuation entries = map (λ e. (e.spot, e.fact)) entries

-- the facts of several cases, of which one holds
abbrev pub facts_of : List (List Entry) → Facts
facts_of cases = map valuation cases
