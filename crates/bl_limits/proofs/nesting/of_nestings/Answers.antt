use Rattle.std.proofs.Common.{ap, sym, ◌∙◌}
use Rattle.std.proofs.lemmas.Slice.Zip.{either_empty_from_Zip}
use Rattle.std.specs.Iterator.Adapters.{zip_first, zip_second}
use Rattle.std.specs.Slice.Iter.{iter_rest}
use Rattle.bl_tree.specs.declared.rule.Rule.TheVariants as rule
use Rattle.bl_tree.specs.declared.tree.StructDef.{StructDef}
use Rattle.bl_tree.specs.Rules.{first_of}
use Rattle.bl_limits.proofs.Lists.{numbered-end, numbered-next}
use Rattle.bl_limits.proofs.nesting.of_nestings.Goals as goal

pub loop-def-preserved : goal.loop-def-preserved
loop-def-preserved c =
    rw c.judge-first.ensures
    (numbered-next rule.Cells 100 (λ (it : StructDef). it.place) _ _ _ _ c.in-Some.def.now c.in-Some.nesting.now c.loop-def.first _
    c.in-Some.ensures.steps.0 c.in-Some.ensures.steps.1 c.loop-def.invariant)

pub returns : goal.returns
returns c =
    let place = λ (it : StructDef). it.place in
    let left = iter_rest (zip_first c.loop-def.def-iterator) in
    let others = iter_rest (zip_second c.loop-def.def-iterator) in
    let ends = either_empty_from_Zip c.loop-def.def-iterator c.next.new.self c.next.result c.in-None.is c.next.ensures.steps in
    sym (ap (first_of c.loop-def.first) (numbered-end rule.Cells 100 place left others ends)) ∙ c.loop-def.invariant
