use Rattle.bl_ctext_semantics.specs.inner.Maps.{text_at}
use Rattle.bl_simplify_calls.specs.Framed.{HasSomeNames}
use Rattle.bl_simplify_calls.proofs.functions.framed_names.Given as goal

abbrev pub invariant-loop-function : goal.invariant-loop-function
invariant-loop-function l = HasSomeNames (text_at l.framed)
