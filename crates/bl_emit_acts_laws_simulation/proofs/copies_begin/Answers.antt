use Rattle.bl_emit_acts_laws_simulation.proofs.Begun.{begun}
use Rattle.bl_emit_acts_laws_simulation.proofs.copies_begin.Goals as goal

pub returns : goal.returns
returns c = λ site copied scope now ks here apart variables known. begun site copied scope apart now ks here variables known
