use Rattle.bl_face.proofs.Reading.{next_if, stops_if}
use Rattle.bl_face.proofs.read.read_tokens.Goals as goal

pub returns-in-Ok-false-clause-fault : goal.returns-in-Ok-false-clause-fault
returns-in-Ok-false-clause-fault c =
    stops_if _ _ _ _ c.loop-token-test.true _ _ c.loop-token.invariant _ c.in-Ok-false.ensures c.in-Ok-false.field-0-test

pub loop-token-preserved : goal.loop-token-preserved
loop-token-preserved c = next_if _ _ _ _ c.loop-token-test.true _ _ c.loop-token.invariant _ c.in-Ok-true.ensures c.in-Ok-true.field-0-test
