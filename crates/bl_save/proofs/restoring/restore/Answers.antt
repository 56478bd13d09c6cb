use Rattle.std.proofs.Common.{◌≡◌, ◌∙◌, sym, None}
use Rattle.bl_crun_ports.specs.Layout.{kinds_of}
use Rattle.bl_save.specs.inner.Shapes.{misfit, state_shape}
use Rattle.bl_save.proofs.Faults.{bad-at-once, bad-state, restored-state}
use Rattle.bl_save.proofs.States.{are-state}
use Rattle.bl_save.proofs.restoring.restore.Goals as goal

pub returns-then-not-ready-clause-bad : goal.returns-then-not-ready-clause-bad
returns-then-not-ready-clause-bad c =
    bad-at-once c.args.runner.now.parts c.args.bytes.now (sym c.ready.ensures.start ∙ c.if-not-ready.true)

pub returns-in-Some-clause-bad : goal.returns-in-Some-clause-bad
returns-in-Some-clause-bad c =
    bad-state c.args.runner.now.parts c.args.bytes.now c.in-Some.at (sym c.ready.ensures.start ∙ c.if-not-ready.false) (sym c.in-Some.ensures.place)

pub put_cells-requires-clause-long : goal.put_cells-requires-clause-long
put_cells-requires-clause-long c =
    let kinds = kinds_of c.args.runner.now.parts in
    let fits : misfit (state_shape kinds) c.args.bytes.now ≡ None = sym c.in-None.ensures.place in
    (are-state kinds c.args.bytes.now fits).long

pub put_cells-requires-clause-fits : goal.put_cells-requires-clause-fits
put_cells-requires-clause-fits c =
    let kinds = kinds_of c.args.runner.now.parts in
    let fits : misfit (state_shape kinds) c.args.bytes.now ≡ None = sym c.in-None.ensures.place in
    (are-state kinds c.args.bytes.now fits).cells

pub returns-in-None-clause-restored : goal.returns-in-None-clause-restored
returns-in-None-clause-restored c =
    let kinds = kinds_of c.args.runner.now.parts in
    let fits : misfit (state_shape kinds) c.args.bytes.now ≡ None = sym c.in-None.ensures.place in
    let put = c.put_cells.ensures in
    record {
      numbers = put.numbers;
      saved = restored-state c.args.runner.now.parts c.args.bytes.now put.numbers
          (sym c.ready.ensures.start ∙ c.if-not-ready.false) fits put.fit put.written;
      runner = put.runner;
    }
