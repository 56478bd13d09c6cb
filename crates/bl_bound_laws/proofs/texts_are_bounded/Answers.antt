use Rattle.bl_bound_laws.proofs.Counting.{bytes-bounded}
use Rattle.bl_bound_laws.proofs.texts_are_bounded.Goals as goal

pub returns : goal.returns
returns c = λ bytes behaviour spells behaves.
    bytes-bounded c.args._file.now c.runs_are_bounded.ensures.behaves bytes behaviour
    ((c.bytes_behave_as_their_file.ensures.each c.args._file.now bytes behaviour spells).0 behaves)
