use Rattle.std.proofs.Common.{◌≡◌, subst, ◌∙◌, [], get_or, arith}
use Rattle.std.proofs.lemmas.List.{append-nil}
use Rattle.bl_cause.specs.inner.Orders.{SearchInvariant, state_of}
use Rattle.bl_cause.proofs.RowLemmas.{row_read}
use Rattle.bl_cause.proofs.OrderLemmas.{frame_within, going_first, going_less, going_next, popped}
use Rattle.bl_cause.proofs.finishing.Search.finish.Goals as goal

pub loop-frame-init : goal.loop-frame-init
loop-frame-init c = going_first c.args.rows.now (state_of c.args.self.now) c.requires.frames c.requires.order

pub loop-frame-smaller : goal.loop-frame-smaller
loop-frame-smaller c =
    let is : c.deref.result.now ≡ get_or c.args.rows.now c.in-Some.frame.node [] =
    row_read c.args.rows.now c.in-Some.frame.node c.deref.result.now c.index-rows-frame.result c.index-rows-frame.is c.deref.ensures
    (let lt = frame_within c.args.rows.now (state_of c.args.self.now)
    (state_of c.loop-frame.self) c.pop.new.self.items c.in-Some.frame c.in-Some.ensures.items c.loop-frame.invariant in
    let e = c.requires.rows.0 in
    omega (arith, lt, e)) in
    going_less c.args.rows.now (state_of c.args.self.now) (state_of c.loop-frame.self) (state_of c.advance.new.self) c.pop.new.self.items c.in-Some.frame
    c.deref.result.now c.requires.rows c.in-Some.ensures.items is c.in_ok-advance.ensures c.loop-frame.invariant

pub loop-frame-preserved : goal.loop-frame-preserved
loop-frame-preserved c =
    let is : c.deref.result.now ≡ get_or c.args.rows.now c.in-Some.frame.node [] =
    row_read c.args.rows.now c.in-Some.frame.node c.deref.result.now c.index-rows-frame.result c.index-rows-frame.is c.deref.ensures
    (let lt = frame_within c.args.rows.now (state_of c.args.self.now)
    (state_of c.loop-frame.self) c.pop.new.self.items c.in-Some.frame c.in-Some.ensures.items c.loop-frame.invariant in
    let e = c.requires.rows.0 in
    omega (arith, lt, e)) in
    going_next c.args.rows.now (state_of c.args.self.now) (state_of c.loop-frame.self) (state_of c.advance.new.self) c.pop.new.self.items c.in-Some.frame
    c.deref.result.now c.requires.rows c.in-Some.ensures.items is c.in_ok-advance.ensures c.loop-frame.invariant

pub returns-clause-keeps : goal.returns-clause-keeps
returns-clause-keeps c = λ edges rows keep.
    subst (λ stack. SearchInvariant edges c.args.rows.now (popped (state_of c.loop-frame.self) stack)) (c.in_default.ensures.items ∙ append-nil c.pop.new.self.items)
    (c.loop-frame.invariant.keeps edges rows keep)
