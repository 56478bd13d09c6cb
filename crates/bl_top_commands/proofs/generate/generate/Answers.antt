-- How the command ends.
use Rattle.bl_top_commands.proofs.Generated.{gen_ran, gen_stopped, run_is_told}
use Rattle.bl_top_commands.proofs.generate.generate.Goals as goal
use Rattle.bl_rows_stream.proofs.Takings.{kept-same}

pub write_run-requires : goal.write_run-requires
write_run-requires g c = run_is_told c.args.stages _ _ c.in-Ok.ensures.ran

pub returns-in-Ok-clause-ends : goal.returns-in-Ok-clause-ends
returns-in-Ok-clause-ends g c = λ left rest file notes.
    gen_ran _ c.args.stages _ _ c.write_run.result.status _ c.in-Ok.ensures.ran c.write_run.ensures.written c.write_run.ensures.line

pub returns-in-Err-clause-ends : goal.returns-in-Err-clause-ends
returns-in-Err-clause-ends g c = λ left rest file notes.
    gen_stopped _ c.args.stages _ _ (c.not_run.ensures c.args.stages c.in-Err.ensures.unrun) (kept-same _)
