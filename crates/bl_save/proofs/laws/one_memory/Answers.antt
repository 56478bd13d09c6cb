use Rattle.std.proofs.Common.{sym, ◌∙◌}
use Rattle.bl_crun_ports.specs.Layout.{kinds_of}
use Rattle.bl_save.proofs.States.{state-injective}
use Rattle.bl_save.proofs.laws.one_memory.Goals as goal

pub returns : goal.returns
returns c file numbers others bytes first second =
    state-injective (kinds_of file) numbers others first.fit second.fit (sym first.written ∙ second.written)
