use Rattle.std.proofs.Common.{Bool, false, List, slice_get, unwrap_or, ap, ◌∙◌}
use Rattle.bl_emit_tables.proofs.GrowLemmas.{noted, room}
use Rattle.bl_emit_tables.proofs.read.note.Goals as goal

pub set-requires : goal.set-requires
set-requires c = room false c.args.tests.now c.grow.new.tests c.args.counter c.in_ok-grow.ensures

pub returns : goal.returns
returns c = λ k.
    ap (λ (tests : List Bool). unwrap_or (slice_get tests k) false) c.set.ensures
    ∙ noted c.args.tests.now c.grow.new.tests c.args.counter k c.in_ok-grow.ensures
