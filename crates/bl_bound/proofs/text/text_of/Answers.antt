use Rattle.std.proofs.Common.{◌≡◌, ◌++◌, length, ap, sym, ◌∙◌, arith}
use Rattle.bl_tree.specs.declared.c.CFunc.{CFunc}
use Rattle.bl_bound.proofs.TextLemmas.{lines, lines-next_at, lines-told, told-long}
use Rattle.bl_bound.proofs.text.text_of.Goals as goal

pub loop-k-init : goal.loop-k-init
loop-k-init c =
    ap (λ t. t ++ lines c.args.functions.now c.args.costs.now) c.new-text.ensures.items
    ∙ (ap (lines c.args.functions.now) c.requires ∙ lines-told c.args.functions.now)

pub bounds-costs-k : goal.bounds-costs-k
bounds-costs-k c =
    let long : length c.args.costs.now ≡ length c.args.functions.now = ap length c.requires ∙ told-long c.args.functions.now in
    omega (arith, long, c.loop-k-test.true)

pub loop-k-preserved : goal.loop-k-preserved
loop-k-preserved c =
    let long : length c.args.costs.now ≡ length c.args.functions.now = ap length c.requires ∙ told-long c.args.functions.now in
    lines-next_at c.args.functions.now c.args.costs.now c.loop-k.k c.index-functions-k.result _ _ c.loop-k.text.items c.append_line.new.text.items _
    c.loop-k-test.true (omega (arith, long, c.loop-k-test.true)) c.index-functions-k.is
    (c.as_str.ensures ∙ ap (λ (f : CFunc). f.name) (sym c.index-functions-k.is)) c.in_ok-append_line.ensures c.loop-k.invariant
