use Rattle.std.proofs.Common.{◌≡◌}
use Rattle.std.specs.Iterator.Adapters.{zip_first, zip_second}
use Rattle.std.specs.Slice.Iter.{iter_rest}
use Rattle.bl_tree.specs.declared.rule.Rule.TheVariants as rule
use Rattle.bl_tree.specs.declared.tree.Unit.{Unit as UnitDef}
use Rattle.bl_tree.specs.Rules.{first_of}
use Rattle.bl_limits.specs.inner.Failures.{numbered}
use Rattle.bl_limits.proofs.frames.of_chains.Given as goal

abbrev pub invariant-loop-unit : goal.invariant-loop-unit
invariant-loop-unit l =
    first_of l.first
    (numbered rule.Frames 100 (λ (it : UnitDef). it.place) (iter_rest (zip_first l.unit-iterator)) (iter_rest (zip_second l.unit-iterator)))
    ≡ first_of l.initial.first (numbered rule.Frames 100 (λ (it : UnitDef). it.place) l.units l.measures.chains)
