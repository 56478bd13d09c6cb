use Rattle.std.proofs.Common.{◌≡◌, ap, sym, ◌∙◌, length, refl, Some, None}
use Rattle.std.proofs.lemmas.Option.{slice_get_past, slice_get_read}
use Rattle.std.specs.Prelude.{slice_get}
use Rattle.bl_tree.specs.Rules.{first_of}
use Rattle.bl_limits.specs.inner.Failures.{at_unit}
use Rattle.bl_limits.proofs.limit.Limit.judge_unit.Goals as goal

pub returns-in-Some : goal.returns-in-Some
returns-in-Some c =
    let units = c.args.units.now in
    let there : slice_get units c.args.unit ≡ Some c.in-Some.unit.now =
    slice_get_read units (length units) c.args.unit c.in-Some.unit.now refl c.in-Some.ensures.lookup.3.0 c.in-Some.ensures.lookup.1 in
    c.judge.ensures ∙ ap (λ found. first_of c.args.first (at_unit c.args.self.rule c.args.self.most c.args.number found)) (sym there)

pub returns-in-None : goal.returns-in-None
returns-in-None c =
    let there : slice_get c.args.units.now c.args.unit ≡ None = slice_get_past c.args.units.now c.args.unit c.in-None.ensures.lookup.3 in
    ap (λ found. first_of c.args.first (at_unit c.args.self.rule c.args.self.most c.args.number found)) (sym there)
