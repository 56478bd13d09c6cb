use Rattle.bl_simplify_laws.specs.Spots.{spot_of_place}
use Rattle.bl_simplify_laws.specs.Tables.{apart_from_lent}
use Rattle.bl_simplify_calls.specs.Checks.{arg_check}
use Rattle.bl_simplify_calls.proofs.Standing.{all_next, mapped_done}
use Rattle.bl_simplify_calls.proofs.exprs.are_others_apart.Goals as goal

pub loop-arg-preserved : goal.loop-arg-preserved
loop-arg-preserved c = λ names.
    all_next (λ a. apart_from_lent (spot_of_place c.args.own.now) (arg_check names a).lent) c.args.args.now c.loop-arg.arg-index c.arg-item.result
    c.loop-arg.apart _ _ c.loop-arg-test.true c.arg-item.is (c.is_other_apart-apart.ensures names)
    (c.loop-arg.invariant names)

pub returns : goal.returns
returns c = λ names.
    mapped_done (arg_check names) (λ a. apart_from_lent (spot_of_place c.args.own.now) a.lent) c.args.args.now c.loop-arg.arg-index c.loop-arg.apart
    c.loop-arg-test.false (c.loop-arg.invariant names)
