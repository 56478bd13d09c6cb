-- The faces stand as far as they were walked.
use Rattle.std.proofs.Common.{◌∙◌, ap, sym}
use Rattle.bl_face.specs.declared.face.Face.{Face}
use Rattle.bl_module.proofs.FaceLemmas.{bad_next, walked_next}
use Rattle.bl_module.proofs.faces.behind_faces.Goals as goal

pub returns-in-Ok-false-clause-fault : goal.returns-in-Ok-false-clause-fault
returns-in-Ok-false-clause-fault c =
    bad_next c.args.faces.now c.loop-k.k c.index-faces-k.result c.deref.result.now c.loop-k.walk c.loop-k-test.true c.index-faces-k.is
    (c.deref.ensures ∙ ap (λ (face : Face). face.items) (sym c.index-faces-k.is)) c.loop-k.invariant
    (sym c.in-Ok-false.field-0-test ∙ c.in-Ok-false.ensures.stand)

pub loop-k-preserved : goal.loop-k-preserved
loop-k-preserved c =
    walked_next c.args.faces.now c.loop-k.k c.index-faces-k.result c.deref.result.now c.loop-k.walk c.go_on.new.self c.loop-k-test.true c.index-faces-k.is
    (c.deref.ensures ∙ ap (λ (face : Face). face.items) (sym c.index-faces-k.is)) c.loop-k.invariant
    (sym c.in-Ok-true.field-0-test ∙ c.in-Ok-true.ensures.stand) (c.in-Ok-true.ensures.walk c.in-Ok-true.field-0-test)
