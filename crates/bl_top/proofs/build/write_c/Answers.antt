-- What stands on `out` at each end.
use Rattle.std.proofs.Common.{sym, subst, ◌∙◌}
use Rattle.bl_top.specs.Build.{IsBuiltOfProgram}
use Rattle.bl_top.proofs.build.write_c.Goals as goal
use Rattle.bl_rows_stream.proofs.Takings.{kept-same}
use Rattle.bl_top_commands.proofs.Ends.{writes_as, wrote_nothing}

pub returns-in-Err-clause-writes : goal.returns-in-Err-clause-writes
returns-in-Err-clause-writes g c = wrote_nothing _ _ _ c.plain.ensures (kept-same _)

pub returns-clause-writes : goal.returns-clause-writes
returns-clause-writes g c =
    let program = c.args.accepted.now.program in
    writes_as _ (IsBuiltOfProgram program.structs program.units program.entry) _ _
    (λ text is.
    subst (IsBuiltOfProgram program.structs program.units program.entry) (sym (is ∙ c.deref.ensures.value)) c.in-Ok.ensures)
    c.write_result.ensures.writes
