use Rattle.bl_emit_laws.proofs.OnLinked.Linked.{all_known}
use Rattle.bl_emit_laws.proofs.linked.needed_are_known.Goals as goal

pub returns : goal.returns
returns c program =
    all_known program.structs program.units program.entry c.calls_decide.ensures c.activities_call_few.ensures
    (c.needed_closed.ensures program)
