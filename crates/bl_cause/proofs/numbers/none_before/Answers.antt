use Rattle.std.proofs.Common.{◌&&◌, subst}
use Rattle.std.proofs.lemmas.Bool.{and_parts}
use Rattle.bl_graph.specs.Accesses.{flows}
use Rattle.bl_cause.specs.inner.Limits.{Rise}
use Rattle.bl_cause.proofs.BeforeLemmas.{none_before}
use Rattle.bl_cause.proofs.numbers.none_before.Goals as goal

pub returns : goal.returns
returns c is =
    let all = and_parts ((c.in_ok-by_data.by_data && c.rises-control.result) && c.are_control.result) c.all_fit.result is in
    let front = and_parts (c.in_ok-by_data.by_data && c.rises-control.result) c.are_control.result all.0 in
    let both = and_parts c.in_ok-by_data.by_data c.rises-control.result front.0 in
    let control = c.args.kept.control.now in
    let made = flows c.args.kept.accesses.now in
    let numbers = c.args.numbers.now in
    none_before c.args.nodes.now control made c.args.at numbers c.requires
    (subst (λ lows. Rise control lows numbers.highs) c.deref-3.ensures
    (subst (λ highs. Rise control c.deref-3.result.now highs) c.deref-4.ensures (c.rises-control.ensures.rise both.1)))
    (subst (λ lows. Rise made lows numbers.highs) c.deref.ensures
    (subst (λ highs. Rise made c.deref.result.now highs) c.deref-2.ensures (c.in_ok-by_data.ensures both.0)))
    (c.are_control.ensures front.1) (c.all_fit.ensures all.1)
