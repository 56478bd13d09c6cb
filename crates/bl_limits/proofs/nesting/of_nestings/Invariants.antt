use Rattle.std.proofs.Common.{◌≡◌}
use Rattle.std.specs.Iterator.Adapters.{zip_first, zip_second}
use Rattle.std.specs.Slice.Iter.{iter_rest}
use Rattle.bl_tree.specs.declared.rule.Rule.TheVariants as rule
use Rattle.bl_tree.specs.declared.tree.StructDef.{StructDef}
use Rattle.bl_tree.specs.Rules.{first_of}
use Rattle.bl_limits.specs.inner.Failures.{numbered}
use Rattle.bl_limits.proofs.nesting.of_nestings.Given as goal

abbrev pub invariant-loop-def : goal.invariant-loop-def
invariant-loop-def l =
    first_of l.first
    (numbered rule.Cells 100 (λ (it : StructDef). it.place) (iter_rest (zip_first l.def-iterator)) (iter_rest (zip_second l.def-iterator)))
    ≡ first_of l.initial.first (numbered rule.Cells 100 (λ (it : StructDef). it.place) l.structs l.nestings)
