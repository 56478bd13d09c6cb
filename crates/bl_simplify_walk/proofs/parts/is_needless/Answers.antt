use Rattle.std.proofs.Common.{◌≡◌, sym, subst}
use Rattle.bl_simplify_facts.specs.Entries.{facts_of}
use Rattle.bl_simplify_walk.specs.Blocks.{IsSkipped}
use Rattle.bl_simplify_walk.proofs.parts.is_needless.Goals as goal

pub returns-in-Some : goal.returns-in-Some
returns-in-Some c = λ nothing.
    subst (IsSkipped (facts_of c.args.cases.now)) (sym c.in-Some.ensures)
    (record { skipped = λ rest new h. c.sets_nothing.ensures nothing _ rest new h })
