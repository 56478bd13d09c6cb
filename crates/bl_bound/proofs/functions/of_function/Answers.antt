use Rattle.std.proofs.Common.{◌<◌, ◌^◌, map, rules, ap, sym, ◌∙◌}
use Rattle.bl_ctext_semantics.specs.Cost.{block_cost, cost_of_function, cost_of_stmt}
use Rattle.bl_bound.specs.declared.cost.Cost.TheVariants.{Number, Over}
use Rattle.bl_bound.specs.inner.Capped.{amount, capped, costs_in}
use Rattle.bl_bound.proofs.CostLemmas.{function-block, told-of}
use Rattle.bl_bound.proofs.functions.of_function.Goals as goal

pub returns-in-Number : goal.returns-in-Number
returns-in-Number c =
    let known = costs_in c.args.known.now in
    let fits : c.in-Number.number < 2 ^ 128 = search rules in
    told-of (Number c.in-Number.number) (cost_of_function known c.args.function.now) fits
    (ap amount (sym c.in-Number.is) ∙ c.of_block.ensures
    ∙ ap (λ b. capped (block_cost (map cost_of_stmt b) known)) c.deref.ensures
    ∙ ap capped (function-block known c.args.function.now.body))

pub returns-in-Over : goal.returns-in-Over
returns-in-Over c =
    let known = costs_in c.args.known.now in
    told-of Over (cost_of_function known c.args.function.now) tt
    (ap amount (sym c.in-Over.is) ∙ c.of_block.ensures
    ∙ ap (λ b. capped (block_cost (map cost_of_stmt b) known)) c.deref.ensures
    ∙ ap capped (function-block known c.args.function.now.body))
