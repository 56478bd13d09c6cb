use Rattle.std.proofs.Common.{◌∙◌, sym, Some, None}
use Rattle.bl_crun_ports.specs.Layout.{kinds_of}
use Rattle.bl_save.specs.inner.Shapes.{state_shape}
use Rattle.bl_save.proofs.Faults.{state-place}
use Rattle.bl_save.proofs.Shaped.{misfit-within}
use Rattle.bl_save.proofs.restoring.state_misfit.Goals as goal

pub returns-in-Some-clause-place : goal.returns-in-Some-clause-place
returns-in-Some-clause-place c =
    sym (state-place c.args.runner.now.parts c.args.bytes.now _ c.cells.result (Some c.in-Some.at) c.header-header.ensures c.cells.ensures.count
    c.in-Some.ensures.place)

pub returns-in-Some-clause-within : goal.returns-in-Some-clause-within
returns-in-Some-clause-within c =
    misfit-within (state_shape (kinds_of c.args.runner.now.parts)) c.args.bytes.now c.in-Some.at
    (state-place c.args.runner.now.parts c.args.bytes.now _ c.cells.result (Some c.in-Some.at) c.header-header.ensures c.cells.ensures.count
    c.in-Some.ensures.place)

pub returns-in-None-clause-place : goal.returns-in-None-clause-place
returns-in-None-clause-place c =
    c.cells_misfit.ensures.place
    ∙ sym (state-place c.args.runner.now.parts c.args.bytes.now _ c.cells.result None c.header-header.ensures c.cells.ensures.count
    c.in-None.ensures.place)
