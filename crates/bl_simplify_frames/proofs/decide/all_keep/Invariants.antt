use Rattle.std.proofs.Common.{◌≡◌, true, drop}
use Rattle.std.specs.Prelude.{All}
use Rattle.bl_ctext_semantics.specs.inner.Maps.{text_at}
use Rattle.bl_simplify_frames.specs.Decided.{KeepsWhereNamed}
use Rattle.bl_simplify_frames.specs.Told.{as_frames}
use Rattle.bl_simplify_frames.proofs.decide.all_keep.Given as goal

abbrev pub invariant-loop-function : goal.invariant-loop-function
invariant-loop-function l =
    l.all ≡ true → All (KeepsWhereNamed (text_at l.framed) (as_frames l.frames)) (drop l.function-index l.functions) →
    All (KeepsWhereNamed (text_at l.framed) (as_frames l.frames)) l.functions
