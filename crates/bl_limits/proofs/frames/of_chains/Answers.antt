use Rattle.std.proofs.Common.{ap, sym, ◌∙◌, arith}
use Rattle.std.proofs.lemmas.Slice.Zip.{either_empty_from_Zip}
use Rattle.std.specs.Iterator.Adapters.{zip_first, zip_second}
use Rattle.std.specs.Slice.Iter.{iter_rest}
use Rattle.bl_tree.specs.declared.rule.Rule.TheVariants as rule
use Rattle.bl_tree.specs.declared.tree.Unit.{Unit as UnitDef}
use Rattle.bl_tree.specs.Rules.{first_of}
use Rattle.bl_limits_measures.specs.Units.{all_chains}
use Rattle.bl_limits.specs.inner.Failures.{numbered}
use Rattle.bl_limits.proofs.Lists.{numbered-end, numbered-next, numbered-saturated}
use Rattle.bl_limits.proofs.frames.of_chains.Goals as goal

pub loop-unit-preserved : goal.loop-unit-preserved
loop-unit-preserved c =
    rw c.judge-first.ensures
    (numbered-next rule.Frames 100 (λ (it : UnitDef). it.place) _ _ _ _ c.in-Some.unit.now c.in-Some.chain.now c.loop-unit.first _
    c.in-Some.ensures.steps.0 c.in-Some.ensures.steps.1 c.loop-unit.invariant)

pub returns : goal.returns
returns c =
    let place = λ (it : UnitDef). it.place in
    let all = c.args.units.now in
    let left = iter_rest (zip_first c.loop-unit.unit-iterator) in
    let others = iter_rest (zip_second c.loop-unit.unit-iterator) in
    let ends = either_empty_from_Zip c.loop-unit.unit-iterator c.next.new.self c.next.result c.in-None.is c.next.ensures.steps in
    sym (ap (first_of c.loop-unit.first) (numbered-end rule.Frames 100 place left others ends))
    ∙ c.loop-unit.invariant
    ∙ ap (λ numbers. first_of c.args.first (numbered rule.Frames 100 place all numbers)) c.requires.tells.chains
    ∙ ap (first_of c.args.first) (numbered-saturated rule.Frames 100 place all (all_chains all) (omega arith))
