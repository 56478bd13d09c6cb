use Rattle.std.proofs.Common.{◌≡◌, ◌++◌, drop, map}
use Rattle.bl_simplify_laws.specs.Rules.{zero_names}
use Rattle.bl_simplify_facts.specs.Entries.{valuation}
use Rattle.bl_simplify_steps.proofs.begin.zeros.Given as goal

abbrev pub invariant-loop-local : goal.invariant-loop-local
invariant-loop-local l =
    valuation l.case ++ zero_names (map (λ p. p.name) l.params) (map (λ l. l.name) (drop l.local-index l.locals))
    ≡ zero_names (map (λ p. p.name) l.params) (map (λ l. l.name) l.locals)
