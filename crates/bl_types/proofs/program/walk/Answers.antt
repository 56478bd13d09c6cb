use Rattle.std.proofs.Common.{◌∙◌, ap, not}
use Rattle.bl_types.specs.declared.environment.State.{State}
use Rattle.bl_types.specs.declared.failure.Notes.{Notes}
use Rattle.bl_types.specs.Failures.{noted}
use Rattle.bl_types.specs.Programs.{begun, program_behind, text_end}
use Rattle.bl_types.specs.inner.States.{passed}
use Rattle.bl_types.specs.Units.{entries}
use Rattle.bl_types.proofs.StateLemmas.{passed-passed}
use Rattle.bl_types.proofs.program.walk.Goals as goal

pub returns-clause-state : goal.returns-clause-state
returns-clause-state c =
    let env = c.args.env in
    let named = c.args.named.now in
    let elsewhere = not c.args.last in
    let state = c.in_ok-walked.walked.state in
    let whole = program_behind env named in
    let with_notes : Notes → State = λ notes. record { env = state.env; notes = notes } in
    ap with_notes (c.entries.ensures ∙ ap (λ units. noted state.notes (entries elsewhere (text_end named) units)) c.deref.ensures)
    ∙ ap (λ (s : State). passed s s.env (entries elsewhere (text_end named) named.units)) c.in_ok-walked.ensures.state
    ∙ passed-passed (begun env) whole.env whole.env whole.failures (entries elsewhere (text_end named) named.units)
